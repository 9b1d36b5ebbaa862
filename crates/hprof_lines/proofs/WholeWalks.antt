-- Walks over all items, and what is left of them.
use Rattle.std.proofs.Common.{◌≡◌, Bool, true, false, true≢false, List, [], ◌∷◌, Option, Some, None, Result, Ok, Err, refl, ap, subst}
use Rattle.hprof_reader.specs.Reading.{Gives}
use Rattle.hprof_reader.specs.declared.fault.Fault.{Fault}
use Rattle.hprof_session.specs.declared.walk.Item.{Item}
use Rattle.hprof_session.specs.declared.walk.Walk.{Walk}
use Rattle.hprof_session.specs.Walks.{Left, ItemTold, IsNext, AreNext, left, item_told, next_told}
use Rattle.hprof_lines.specs.Passes.{IsWhole}

-- what `item_at` tells of each item that is next
abbrev pub IsOnly : Left → Result (Option (Item × Walk)) Fault → Type 0
IsOnly w result = (i : ItemTold) (v : Left) → IsNext w i v → Gives next_told result (Ok (Some (i, v)))

-- what a result tells of the next item, if there is one
abbrev Next : Type 0
Next = Result (Option (ItemTold × Left)) Fault

abbrev item_in : ItemTold → Next → ItemTold
item_in i (Ok (Some x)) = x.0
item_in i (Ok None) = i
item_in i (Err e) = i

abbrev left_in : Left → Next → Left
left_in v (Ok (Some x)) = x.1
left_in v (Ok None) = v
left_in v (Err e) = v

abbrev is_next : Next → Bool
is_next (Ok (Some x)) = true
is_next (Ok None) = false
is_next (Err e) = false

-- the first item of a whole walk is the item that is next, and the others are a whole walk from there
pub record HasFirst (items : List ItemTold) (i : ItemTold) (v : Left) : Type 0 where
  pub others : List ItemTold
  pub first : items ≡ i ∷ others
  pub whole : IsWhole v others

pub whole_next : (w : Left) (items : List ItemTold) (x : Item × Walk) → IsOnly w (Ok (Some x)) → IsNext w (item_told x.0) (left x.1)
    → IsWhole w items → HasFirst items (item_told x.0) (left x.1)
whole_next w [] x only found whole =
    absurd (whole.ended (item_told x.0) (left x.1) (subst (λ (u : Left). IsNext u (item_told x.0) (left x.1)) whole.walked found))
whole_next w (i ∷ items) x only found whole =
    let next = whole.walked in
    let same : Ok (Some (i, next.0)) ≡ Ok (Some (item_told x.0, left x.1)) = only i next.0 next.1 in
    let item : i ≡ item_told x.0 = ap (item_in i) same in
    let place : next.0 ≡ left x.1 = ap (left_in next.0) same in
    record {
      others = items;
      first = ap (λ (j : ItemTold). j ∷ items) item;
      whole = record { end = whole.end; walked = subst (λ (u : Left). AreNext u items whole.end) place next.2; ended = whole.ended };
    }

pub whole_none : (w : Left) (items : List ItemTold) → IsOnly w (Ok None) → IsWhole w items → items ≡ []
whole_none w [] only whole = refl
whole_none w (i ∷ items) only whole =
    let same : Ok (Some (i, whole.walked.0)) ≡ Ok None = only i whole.walked.0 whole.walked.1 in absurd (true≢false (ap is_next same))

pub whole_fault : (w : Left) (items : List ItemTold) (e : Fault) → IsOnly w (Err e) → IsWhole w items → items ≡ []
whole_fault w [] e only whole = refl
whole_fault w (i ∷ items) e only whole =
    let same : Ok (Some (i, whole.walked.0)) ≡ Err e = only i whole.walked.0 whole.walked.1 in absurd (true≢false (ap is_next same))
