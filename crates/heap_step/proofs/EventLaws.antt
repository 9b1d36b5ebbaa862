-- Each event is sound, and so the laws hold.
use Rattle.std.proofs.Common.{None, ℕ, ◌≡◌, ◌⊎◌}
use Rattle.heap_mark.specs.declared.Phase.TheVariants.{Marking}
use Rattle.heap_world.proofs.Clauses.{HasClauses, legal_heap_has_clauses, clauses_make_heap_legal}
use Rattle.heap_world.proofs.Registers.{reached_live}
use Rattle.heap_world.proofs.Shapes.{KeepsShape}
use Rattle.heap_world.proofs.Sweep.{sweep_leaves_live}
use Rattle.heap_world.specs.Legal.{IsLegal, IsLive}
use Rattle.heap_world.specs.State.{HeapState}
use Rattle.heap_step.specs.Apply.{refusal_of, state_after}
use Rattle.heap_step.specs.Laws.{FinishSpares, IsRestored, KeepsLegal, StaysFound, SweepSpares}
use Rattle.heap_step.specs.declared.Event.{Event}
use Rattle.heap_step.proofs.ClassEvents.{array_class_sound, class_sound}
use Rattle.heap_step.proofs.Finish.{finish_sound}
use Rattle.heap_step.proofs.MarkerEvents.{drain_sound, mark_sound, snap_sound}
use Rattle.heap_step.proofs.RegisterEvents.{clear_event_is_sound, load_sound, move_event_is_sound}
use Rattle.heap_step.proofs.CreationEvents.{new_array_sound, new_prim_sound, new_event_is_sound}
use Rattle.heap_step.proofs.Soundness.{IsSound}
use Rattle.heap_step.proofs.Sweeps.{sweep_sound}
use Rattle.heap_step.proofs.WriteEvents.{put_event_is_sound, store_sound}

-- each event, by its family
pub each_event_is_sound : (e : Event) → IsSound e
each_event_is_sound (Event.Class name sup fields) = class_sound name sup fields
each_event_is_sound (Event.ArrayClass name) = array_class_sound name
each_event_is_sound (Event.New m r class) = new_event_is_sound m r class
each_event_is_sound (Event.NewArray m r class len) = new_array_sound m r class len
each_event_is_sound (Event.NewPrim m r kind len) = new_prim_sound m r kind len
each_event_is_sound (Event.Load m to from slot) = load_sound m to from slot
each_event_is_sound (Event.Store m target slot source) = store_sound m target slot source
each_event_is_sound (Event.Put m target slot value) = put_event_is_sound m target slot value
each_event_is_sound (Event.Move m to from_m from) = move_event_is_sound m to from_m from
each_event_is_sound (Event.Clear m r) = clear_event_is_sound m r
each_event_is_sound Event.Snap = snap_sound
each_event_is_sound Event.Mark = mark_sound
each_event_is_sound Event.Drain = drain_sound
each_event_is_sound Event.Finish = finish_sound
each_event_is_sound (Event.Sweep region) = sweep_sound region

pub keeps_legal : (e : Event) (w : HeapState) → KeepsLegal e w
keeps_legal e w l accepted = clauses_make_heap_legal (state_after e w) ((each_event_is_sound e).legal w (legal_heap_has_clauses w l) accepted)

pub undo_restores : (e : Event) (w : HeapState) → IsRestored e w
undo_restores e = (each_event_is_sound e).back

pub stays_found : (e : Event) (w : HeapState) → IsLegal w → refusal_of e w ≡ None → StaysFound w (state_after e w)
stays_found e w l = (each_event_is_sound e).found w (legal_heap_has_clauses w l)

-- a live object's kind and number of words stay
pub each_event_keeps_shapes : (e : Event) (w : HeapState) → HasClauses w → refusal_of e w ≡ None → (x : ℕ) → IsLive w x → KeepsShape w (state_after e w) x
each_event_keeps_shapes e = (each_event_is_sound e).shape

-- where a cycle runs after an event that isn't a snap, it ran before
pub has_run : (e : Event) (w : HeapState) → (state_after e w).phase ≡ Marking → (e ≡ Event.Snap) ⊎ (w.phase ≡ Marking)
has_run e = (each_event_is_sound e).run

-- ---- what the registers reach

-- a sweep leaves all of it
pub sweep_spares : (region : ℕ) (w : HeapState) → SweepSpares region w
unfolding state_after refusal_of
sweep_spares region w l accepted x reached = sweep_leaves_live w region x accepted (reached_live w (legal_heap_has_clauses w l) x reached)

-- after a finish all of it is live
pub finish_spares : (w : HeapState) → FinishSpares w
finish_spares w l accepted = reached_live (state_after Event.Finish w) (finish_sound.legal w (legal_heap_has_clauses w l) accepted)
