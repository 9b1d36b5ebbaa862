-- The items that a walk comes to: there is one list of them, and what they tell are bytes.
use Rattle.std.proofs.Common.{◌≡◌, ◌≢◌, ℕ, Bool, true, false, List, [], ◌∷◌, ◌++◌, length, refl, sym, ap, subst, ◌∙◌, Option, Some, None, Result, Ok, arith}
use Rattle.std.specs.Prelude.{◌==◌, ◌||◌, if◌then◌else◌}
use Rattle.heap_class.specs.declared.IdSize.{IdSize}
use Rattle.heap_class.specs.Kinds.{type_code}
use Rattle.hprof_text.specs.Text.{u1, u2, u4, id}
use Rattle.hprof_reader.specs.declared.fault.Fault.{Fault}
use Rattle.hprof_reader.specs.Reading.{record_parts}
use Rattle.hprof_reader.specs.Records.{Told, record_text}
use Rattle.hprof_reader.specs.SubParts.{sub_parts}
use Rattle.hprof_reader.specs.SubRecords.{Sub, class_text, entries_text, head_text, sub_text, root, class, instance, array, prim}
use Rattle.hprof_reader.proofs.ReadSubs.{sub_reader}
use Rattle.hprof_reader.proofs.WholeRecords.{record_reader}
use Rattle.hprof_session.specs.Surveys.{EndsAt}
use Rattle.hprof_session.specs.Walks.{AreNext, IsNext, IsNextRecord, IsNextSub, ItemTold, Left, record_told, segment_of, sub_told}
use Rattle.hprof_session.proofs.Walked.{next_item_leaves_fewer_bytes, walk_end_leaves_no_bytes}
use Rattle.hprof_plan.specs.Finds.{Finds, HasTables}
use Rattle.hprof_plan.specs.declared.dump.Found.{Found}
use Rattle.hprof_lines.specs.Passes.{IsWhole}
use Rattle.hprof_heap.proofs.Premises.{AreBytes, AreItemBytes, AreItemsOfBytes, AreSubBytes}
use Rattle.hprof_heap.proofs.ValueRanges.{bytes_before, bytes_behind}

-- ---- one item is next

one_value : {A : Type 0} (r : Result (A × List ℕ) Fault) (x y : A × List ℕ) → r ≡ Ok x → r ≡ Ok y → x ≡ y
one_value r x y e f = let z : Ok x ≡ Ok y = sym e ∙ f in cc

-- two items that are next are one, and leave the same
record AreOneNext (i j : ItemTold) (u v : Left) : Type 0 where
  item : i ≡ j
  left : u ≡ v

subs_are_one : (w : Left) (s t : Sub) (u v : Left) → IsNextSub w s u → IsNextSub w t v → AreOneNext (sub_told s) (sub_told t) u v
subs_are_one w s t u v p q = record {
  item = ap (λ x. sub_told x.0) same;
  left = λ i. record { ids = (p.ids ∙ sym q.ids) i; segment = (ap (λ x. x.1) same) i; rest = (p.rest ∙ sym q.rest) i };
}
  where
    same : ◌≡◌ {A = Sub × List ℕ} (s, u.segment) (t, v.segment)
    same = one_value (sub_parts w.ids w.segment) (s, u.segment) (t, v.segment)
        (ap (sub_parts w.ids) p.segment ∙ (sub_reader w.ids).again s u.segment p.fits) (ap (sub_parts w.ids) q.segment ∙ (sub_reader w.ids).again t v.segment q.fits)

records_are_one : (w : Left) (r q : Told) (u v : Left) → IsNextRecord w r u → IsNextRecord w q v → AreOneNext (record_told r) (record_told q) u v
records_are_one w r q u v a b = record {
  item = ap (λ x. record_told x.0) same;
  left = λ i. record { ids = (a.ids ∙ sym b.ids) i; segment = (a.segment ∙ ap (λ x. segment_of x.0.tag x.0.body) same ∙ sym b.segment) i; rest = (ap (λ x. x.1) same) i };
}
  where
    same : ◌≡◌ {A = Told × List ℕ} (r, u.rest) (q, v.rest)
    same = one_value (record_parts w.rest) (r, u.rest) (q, v.rest) (ap record_parts a.rest ∙ record_reader.again r u.rest a.fits) (ap record_parts b.rest ∙ record_reader.again q v.rest b.fits)

segment_goes_on : (w : Left) (s : Sub) (u : Left) → IsNextSub w s u → w.segment ≢ []
segment_goes_on w s u p e = omega (arith, next_item_leaves_fewer_bytes w (sub_told s) u p, ap length e, ap length p.rest)

next_is_one : (w : Left) (i j : ItemTold) (u v : Left) → IsNext w i u → IsNext w j v → AreOneNext i j u v
next_is_one w (record_told r) (record_told q) u v a b = records_are_one w r q u v a b
next_is_one w (record_told r) (sub_told t) u v a b = absurd (segment_goes_on w t v b a.past)
next_is_one w (sub_told s) (record_told q) u v a b = absurd (segment_goes_on w s u a b.past)
next_is_one w (sub_told s) (sub_told t) u v a b = subs_are_one w s t u v a b

-- ---- one list of items

-- no item is next
abbrev IsDone : Left → Type 0
IsDone w = (i : ItemTold) (v : Left) → ¬ IsNext w i v

lists_are_one : (w : Left) (xs ys : List ItemTold) (u v : Left) → AreNext w xs u → IsDone u → AreNext w ys v → IsDone v → xs ≡ ys
lists_are_one w [] [] u v a d b e = refl
lists_are_one w [] (y ∷ ys) u v a d b e = absurd (d y b.0 (subst (λ t. IsNext t y b.0) a b.1))
lists_are_one w (x ∷ xs) [] u v a d b e = absurd (e x a.0 (subst (λ t. IsNext t x a.0) b a.1))
lists_are_one w (x ∷ xs) (y ∷ ys) u v a d b e =
    let one = next_is_one w x y a.0 b.0 a.1 b.1 in
    let rest = lists_are_one a.0 xs ys u v a.2 d (subst (λ t. AreNext t ys v) (sym one.left) b.2) e in
    ap (λ z. z ∷ xs) one.item ∙ ap (λ zs. y ∷ zs) rest

ends_are_done : (w : Left) (fault : Option Fault) → EndsAt w fault → IsDone w
ends_are_done w None e = λ i v next. omega (arith, next_item_leaves_fewer_bytes w i v next, walk_end_leaves_no_bytes w e)
ends_are_done w (Some fault) e = e.1

pub whole_walk_has_tables : (w : Left) (items : List ItemTold) (f : Found) → IsWhole w items → Finds w f → HasTables w.ids items f
whole_walk_has_tables w items f whole finds =
    subst (λ xs. HasTables w.ids xs f) (lists_are_one w finds.list items finds.end whole.end finds.walked (ends_are_done finds.end f.fault finds.ended) whole.walked whole.ended) finds.tables

-- ---- bytes

sub_text_of_bytes_tells_bytes : (ids : IdSize) (s : Sub) → AreBytes (sub_text ids s) → AreSubBytes s
sub_text_of_bytes_tells_bytes ids (root tag x more) b = tt
sub_text_of_bytes_tells_bytes ids (class c) b =
    let text = bytes_behind (u1 0x20) (class_text ids c) b in
    let front = bytes_before (head_text ids c.head ++ entries_text c.constants ++ entries_text c.statics) (entries_text c.fields) text in
    bytes_behind (u2 c.statics.count) c.statics.bytes (bytes_behind (head_text ids c.head ++ entries_text c.constants) (entries_text c.statics) front)
sub_text_of_bytes_tells_bytes ids (instance x trace k values) b = bytes_behind (u1 0x21 ++ id ids x ++ u4 trace ++ id ids k ++ u4 (length values)) values b
sub_text_of_bytes_tells_bytes ids (array x trace count k elements) b = tt
sub_text_of_bytes_tells_bytes ids (prim x trace count kind elements) b = bytes_behind (u1 0x23 ++ id ids x ++ u4 trace ++ u4 count ++ u1 (type_code kind)) elements b

-- what is left of a dump are bytes
pub record IsLeftBytes (w : Left) : Type 0 where
  pub segment : AreBytes w.segment
  pub rest : AreBytes w.rest

no_bytes : AreBytes []
no_bytes i = omega arith

next_has_bytes : (w : Left) (i : ItemTold) (v : Left) → IsNext w i v → IsLeftBytes w → AreItemBytes i × IsLeftBytes v
next_has_bytes w (sub_told s) v next b =
    let segment : AreBytes (sub_text w.ids s ++ v.segment) = subst AreBytes next.segment b.segment in
    (sub_text_of_bytes_tells_bytes w.ids s (bytes_before (sub_text w.ids s) v.segment segment), record { segment = bytes_behind (sub_text w.ids s) v.segment segment; rest = subst AreBytes (sym next.rest) b.rest })
next_has_bytes w (record_told r) v next b = (
  tt,
  record {
    segment = subst AreBytes (sym next.segment) (go (r.tag == 0x0c || r.tag == 0x1c));
    rest = bytes_behind (record_text r) v.rest rest;
  },
)
  where
    rest : AreBytes (record_text r ++ v.rest)
    rest = subst AreBytes next.rest b.rest

    body : AreBytes r.body
    body = bytes_behind (u1 r.tag ++ u4 r.time ++ u4 (length r.body)) r.body (bytes_before (record_text r) v.rest rest)

    go : (c : Bool) → AreBytes (if c then r.body else [])
    go true = body
    go false = no_bytes

pub items_have_bytes : (w : Left) (items : List ItemTold) (v : Left) → AreNext w items v → IsLeftBytes w → AreItemsOfBytes items
items_have_bytes w [] v are b = tt
items_have_bytes w (i ∷ items) v are b = let p = next_has_bytes w i are.0 are.1 b in (p.0, items_have_bytes are.0 items v are.2 p.1)
