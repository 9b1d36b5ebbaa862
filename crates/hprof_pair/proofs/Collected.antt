-- The sub-records of the objects of a dump, item by item.
use Rattle.std.proofs.Common.{◌≡◌, ℕ, ◌+◌, Bool, true, false, cond, List, [], ◌∷◌, ◌++◌, length, refl, sym, ap, ◌∙◌, append_assoc, arith}
use Rattle.std.proofs.lemmas.List.{append-nil, length-append}
use Rattle.hprof_reader.specs.SubRecords.{Sub}
use Rattle.hprof_session.specs.Walks.{Left, ItemTold, record_told, sub_told}
use Rattle.hprof_lines.specs.Passes.{IsWhole, is_turn, next_place}
use Rattle.hprof_lines.proofs.WholeWalks.{HasFirst}
use Rattle.hprof_pair.specs.Dumps.{sub_in, subs_from}

-- those so far, and those of the items that are left, are all
pub record IsCollecting (objects : List ℕ) (at : Left) (subs : List Sub) (items : List ItemTold) : Type 0 where
  pub rest : List ItemTold
  pub whole : IsWhole at rest
  pub left : subs ++ subs_from objects (length subs) rest ≡ subs_from objects 0 items

pub collecting_none : (objects : List ℕ) (w : Left) (items : List ItemTold) → IsWhole w items → IsCollecting objects w [] items
collecting_none objects w items whole = record { rest = items; whole = whole; left = refl }

collected_length : (i : ℕ) (turn : Bool) (s : Sub) (subs : List Sub) → length subs ≡ i → length (subs ++ cond turn (s ∷ []) []) ≡ cond turn (i + 1) i
collected_length i true s subs e = omega (arith, length-append subs (s ∷ []), e)
collected_length i false s subs e = omega (arith, length-append subs [], e)

pub collecting_more : (objects : List ℕ) (w v : Left) (subs subs' : List Sub) (i : ItemTold) (items : List ItemTold) (m : IsCollecting objects w subs items)
    → HasFirst m.rest i v → subs' ≡ subs ++ sub_in objects (length subs) i → IsCollecting objects v subs' items
unfolding subs_from
collecting_more objects w v subs subs' i items m first more = record {
  rest = first.others;
  whole = first.whole;
  left =
      ap (λ (ss : List Sub). ss ++ subs_from objects (length ss) first.others) more
      ∙ ap (λ (n : ℕ). (subs ++ sub_in objects (length subs) i) ++ subs_from objects n first.others) (place i)
      ∙ append_assoc subs (sub_in objects (length subs) i) (subs_from objects (next_place objects (length subs) i) first.others)
      ∙ sym (ap (λ (its : List ItemTold). subs ++ subs_from objects (length subs) its) first.first)
      ∙ m.left;
}
  where
    place : (it : ItemTold) → length (subs ++ sub_in objects (length subs) it) ≡ next_place objects (length subs) it
    place (record_told r) = ap length (append-nil subs)
    place (sub_told s) = collected_length (length subs) (is_turn objects (length subs) s) s subs refl

pub collecting_all : (objects : List ℕ) (w : Left) (subs : List Sub) (items : List ItemTold) (m : IsCollecting objects w subs items)
    → m.rest ≡ [] → subs ≡ subs_from objects 0 items
unfolding subs_from
collecting_all objects w subs items m none =
    sym (append-nil subs) ∙ sym (ap (λ (its : List ItemTold). subs ++ subs_from objects (length subs) its) none) ∙ m.left
