-- Walks, item by item.
use Rattle.std.proofs.Common.{◌≡◌, ℕ, ◌+◌, ◌<◌, ◌≤◌, Bool, true, false, cond, eqb, ◌||◌, List, [], ◌∷◌, ◌++◌, length, refl, sym, ap, subst, arith}
use Rattle.std.proofs.lemmas.List.{length-append}
use Rattle.heap_class.specs.declared.IdSize.{IdSize}
use Rattle.hprof_text.specs.Text.{u1, u4}
use Rattle.hprof_reader.specs.Records.{Told, record_text}
use Rattle.hprof_reader.specs.SubRecords.{Sub, root, class, instance, array, prim, sub_text}
use Rattle.hprof_session.specs.Surveys.{bytes_left}
use Rattle.hprof_session.specs.Walks.{Left, ItemTold, record_told, sub_told, IsNext, IsAtEnd, AreNext}

-- ---- each item takes bytes

sub_record_takes_bytes : (ids : IdSize) (s : Sub) → 0 < length (sub_text ids s)
sub_record_takes_bytes ids (root tag x more) = omega arith
sub_record_takes_bytes ids (class c) = omega arith
sub_record_takes_bytes ids (instance x trace k values) = omega arith
sub_record_takes_bytes ids (array x trace count k elements) = omega arith
sub_record_takes_bytes ids (prim x trace count kind elements) = omega arith

segment_size : (heap : Bool) (body : List ℕ) → length (cond heap body []) ≤ length body
segment_size true body = omega arith
segment_size false body = omega arith

record_size : (r : Told) → length r.body < length (record_text r)
record_size r = omega (arith, length-append (u1 r.tag ++ u4 r.time ++ u4 (length r.body)) r.body, length-append (u1 r.tag ++ u4 r.time) (u4 (length r.body)), length-append (u1 r.tag) (u4 r.time))

pub next_item_leaves_fewer_bytes : (w : Left) (i : ItemTold) (v : Left) → IsNext w i v → bytes_left v < bytes_left w
next_item_leaves_fewer_bytes w (record_told r) v next =
    let body : length v.segment ≤ length r.body = omega (arith, ap length next.segment, segment_size (eqb r.tag 0x0c || eqb r.tag 0x1c) r.body) in
    omega (arith, body, record_size r, ap length next.rest, length-append (record_text r) v.rest)
next_item_leaves_fewer_bytes w (sub_told s) v next =
    omega (arith, sub_record_takes_bytes w.ids s, ap length next.segment, length-append (sub_text w.ids s) v.segment, ap length next.rest)

-- ---- several items

pub items_next_with_one_more : (w : Left) (list : List ItemTold) (u : Left) (i : ItemTold) (v : Left) → AreNext w list u → IsNext u i v → AreNext w (list ++ (i ∷ [])) v
items_next_with_one_more w [] u i v same next = (v, subst (λ (x : Left). IsNext x i v) (sym same) next, refl)
items_next_with_one_more w (j ∷ list) u i v are next = (are.0, are.1, items_next_with_one_more are.0 list u i v are.2 next)

-- a walk passes `items` items in `turns` turns
pub record IsWalked (w : Left) (items turns : ℕ) (v : Left) : Type 0 where
  pub list : List ItemTold
  pub walked : AreNext w list v
  pub counted : length list ≡ items
  pub shrunk : bytes_left v + turns ≤ bytes_left w
  pub few : items ≤ turns

pub walk_of_no_items : (w : Left) → IsWalked w 0 0 w
walk_of_no_items w = record { list = []; walked = refl; counted = refl; shrunk = omega arith; few = omega arith }

pub walk_of_one_item_more : (w : Left) (items turns : ℕ) (u : Left) (i : ItemTold) (v : Left) → IsWalked w items turns u → IsNext u i v → IsWalked w (items + 1) (turns + 1) v
walk_of_one_item_more w items turns u i v so_far next = record {
  list = so_far.list ++ (i ∷ []);
  walked = items_next_with_one_more w so_far.list u i v so_far.walked next;
  counted = omega (arith, length-append so_far.list (i ∷ []), so_far.counted);
  shrunk = omega (arith, next_item_leaves_fewer_bytes u i v next, so_far.shrunk);
  few = omega (arith, so_far.few);
}

pub walk_end_leaves_no_bytes : (w : Left) → IsAtEnd w → bytes_left w ≡ 0
walk_end_leaves_no_bytes w end = omega (arith, ap length end.0, ap length end.1)

list_without_length_is_empty : (xs : List ℕ) → length xs ≡ 0 → xs ≡ []
list_without_length_is_empty [] none = refl
list_without_length_is_empty (x ∷ xs) none = absurd (omega (arith, none))

pub is_at_end : (w : Left) → bytes_left w ≡ 0 → IsAtEnd w
is_at_end w none = (list_without_length_is_empty w.segment (omega (arith, none)), list_without_length_is_empty w.rest (omega (arith, none)))
