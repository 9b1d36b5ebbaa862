-- What a sweep and a finish leave of what the registers reach.
use Rattle.std.proofs.Common.{◌≡◌, ℕ, sym, ap, subst, ◌∙◌, None}
use Rattle.circular_buffer.specs.Buffer.{Buffer}
use Rattle.heap_world.specs.Regions.{object_of}
use Rattle.heap_world.specs.State.{HeapState}
use Rattle.heap_world.specs.Legal.{IsLegal}
use Rattle.heap_step.specs.declared.Event.{Event}
use Rattle.heap_step.specs.declared.Event.TheVariants.{Finish, Sweep}
use Rattle.heap_step.specs.declared.Undo.{Undo}
use Rattle.heap_step.specs.Apply.{refusal_of, state_after}
use Rattle.heap_step.proofs.EventLaws.{sweep_spares, finish_spares}
use Rattle.heap_trail.specs.Laws.{SparesReached, ReachesLive, FindsSnapshot}
use Rattle.heap_trail.specs.Records.{past_of, IsRetaining}
use Rattle.heap_trail.proofs.SnapshotFindings.{finds_snapshot}

-- w accepts the event, which leads to v
abbrev pub LeadsTo : Event → HeapState → HeapState → Type 0
LeadsTo e w v = (refusal_of e w ≡ None) × (v ≡ state_after e w)

pub sweep_spares_reached_objects : (w v : HeapState) (e : Event) → IsLegal w → LeadsTo e w v → (region : ℕ) → e ≡ Sweep region → SparesReached w v
sweep_spares_reached_objects w v e legal h region is x r =
    let s = subst (λ f. LeadsTo f w v) is h in
    ap (λ (u : HeapState). object_of u.regions x) s.1 ∙ sweep_spares region w legal s.0 x r

pub finish_lives : (w v : HeapState) (e : Event) → IsLegal w → LeadsTo e w v → e ≡ Finish → ReachesLive v
finish_lives w v e legal h is =
    let s = subst (λ f. LeadsTo f w v) is h in
    subst ReachesLive (sym s.1) (finish_spares w legal s.0)

pub finish_finds : (w v : HeapState) (e : Event) (ring : Buffer Undo) (place keep : ℕ) → IsRetaining w ring place keep → LeadsTo e w v → e ≡ Finish → FindsSnapshot (past_of w ring.items) v
finish_finds w v e ring place keep k h is =
    let s = subst (λ f. LeadsTo f w v) is h in
    subst (FindsSnapshot (past_of w ring.items)) (sym s.1) (finds_snapshot w (past_of w ring.items) ring.items k.recorded s.0)
