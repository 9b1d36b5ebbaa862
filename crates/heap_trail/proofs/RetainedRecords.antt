-- The record of a retained step.
use Rattle.std.proofs.Common.{◌≡◌, ℕ, zero, suc, ◌+◌, List, [], ◌∷◌, Some, add-one, sym, subst}
use Rattle.std.specs.Prelude.{slice_get, slice_index_or}
use Rattle.std.proofs.lemmas.Option.{none-some, same_Some}
use Rattle.heap_world.specs.State.{HeapState}
use Rattle.heap_step.specs.declared.Event.{Event}
use Rattle.heap_step.specs.declared.Undo.{Undo}
use Rattle.heap_step.specs.Laws.{IsStep}
use Rattle.heap_trail.specs.Laws.{AreSteps, IsTrail}
use Rattle.heap_trail.specs.Trail.{Trail, state_ago}

-- the step that led to the state of n steps ago left this record
abbrev pub HasRecord : Trail → ℕ → Undo → Type 0
HasRecord t n left = (e : Event) × IsStep e (state_ago (n + 1) t) (state_ago n t) left

record_step : (w : HeapState) (past : List HeapState) (records : List Undo) (n : ℕ) (left : Undo) (d : HeapState) → AreSteps w past records → slice_get records n ≡ Some left → (e : Event) × IsStep e (slice_index_or (w ∷ past) (suc n) d) (slice_index_or (w ∷ past) n d) left
record_step w [] [] n left d s there = absurd (none-some left there)
record_step w (v ∷ vs) (r ∷ rs) zero left d s there = (s.0.0, subst (λ (l : Undo). IsStep s.0.0 v w l) (same_Some r left there) s.0.1)
record_step w (v ∷ vs) (r ∷ rs) (suc n) left d s there = record_step v vs rs n left d s.1 there
record_step w [] (r ∷ rs) n left d s there = absurd s
record_step w (v ∷ vs) [] n left d s there = absurd s

-- of a legal trail
pub has_record : (keep : ℕ) (t : Trail) (n : ℕ) (left : Undo) → IsTrail keep t → slice_get t.records n ≡ Some left → HasRecord t n left
unfolding state_ago
has_record keep t n left trail there =
    let r = record_step t.current t.past t.records n left t.current trail.steps there in
    (r.0, subst (λ k. IsStep r.0 (slice_index_or (t.current ∷ t.past) k t.current) (slice_index_or (t.current ∷ t.past) n t.current) left) (sym (add-one n)) r.1)
