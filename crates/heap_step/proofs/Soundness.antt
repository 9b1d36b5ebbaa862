-- What makes an event sound.
use Rattle.std.proofs.Common.{None, ℕ, ◌≡◌, ◌⊎◌}
use Rattle.heap_mark.specs.declared.Phase.TheVariants.{Marking}
use Rattle.heap_world.proofs.Clauses.{HasClauses}
use Rattle.heap_world.proofs.Shapes.{KeepsShape}
use Rattle.heap_world.specs.Legal.{IsLegal, IsLive}
use Rattle.heap_world.specs.State.{HeapState}
use Rattle.heap_step.specs.Apply.{refusal_of, state_after}
use Rattle.heap_step.specs.Laws.{IsRestored, StaysFound}
use Rattle.heap_step.specs.Records.{undo_record}
use Rattle.heap_step.specs.declared.Event.{Event}
use Rattle.heap_step.proofs.Fits.{Fits}

-- what a legal heap that accepts the event keeps
pub record IsSound (e : Event) : Type 0 where
  -- it stays legal
  pub legal : (w : HeapState) → HasClauses w → refusal_of e w ≡ None → HasClauses (state_after e w)
  -- the record takes the event back
  pub back : (w : HeapState) → IsRestored e w
  -- and its state has what the record needs
  pub fits : (w : HeapState) → IsLegal w → refusal_of e w ≡ None → Fits (undo_record e w) (state_after e w)
  -- what a running cycle has marked or sheltered stays so
  pub found : (w : HeapState) → HasClauses w → refusal_of e w ≡ None → StaysFound w (state_after e w)
  -- a live object's kind and number of words stay
  pub shape : (w : HeapState) → HasClauses w → refusal_of e w ≡ None → (x : ℕ) → IsLive w x → KeepsShape w (state_after e w) x
  -- where a cycle runs after an event that isn't a snap, it ran before
  pub run : (w : HeapState) → (state_after e w).phase ≡ Marking → (e ≡ Event.Snap) ⊎ (w.phase ≡ Marking)
