-- What records tell of the past.
use Rattle.heap_class.specs.declared.IdSize.{IdSize}
use Rattle.std.proofs.Common.{◌≡◌, ℕ, zero, suc, List, [], ◌∷◌, length, take, refl, sym, ap, ◌∙◌, arith}
use Rattle.heap_world.specs.State.{HeapState}
use Rattle.heap_step.specs.declared.Undo.{Undo}
use Rattle.heap_step.specs.declared.Undo.TheVariants.{Put, Store, Reg, New, Class, Snap, Mark, Drain, Finish, Sweep, Reclaim}
use Rattle.heap_step.specs.Records.{undone}
use Rattle.circular_buffer.specs.Buffer.{Buffer}
use Rattle.heap_trail.specs.Laws.{IsTrail}
use Rattle.heap_trail.specs.Records.{past_of, AreRecorded, IsRetaining, machine_with}
use Rattle.heap_trail.specs.Pins.{Pins}
use Rattle.heap_trail.proofs.RetainedStates.{recorded_state_is_legal}

-- a step that is undone changes nothing of what the heap allows
limits_undone : (left : Undo) (w : HeapState) → (undone left w).limits ≡ w.limits
unfolding undone
limits_undone (Put at slot old) w = refl
limits_undone (Store at slot old logged) w = refl
limits_undone (Reg m r old) w = refl
limits_undone (New at fresh m r old) w = refl
limits_undone Class w = refl
limits_undone Snap w = refl
limits_undone (Mark parent pushed) w = refl
limits_undone (Drain pushed) w = refl
limits_undone (Finish log) w = refl
limits_undone (Sweep region dead) w = refl
limits_undone (Reclaim region storage) w = refl

-- so a heap allows as much before a step as after it
pub limits_stay : (left : Undo) (w v : HeapState) → undone left v ≡ w → w.limits ≡ v.limits
limits_stay left w v back = ap (λ (u : HeapState). u.limits) (sym back) ∙ limits_undone left v

-- as many states as records
pub length-past_of : (w : HeapState) (rs : List Undo) → length (past_of w rs) ≡ length rs
length-past_of w [] = refl
length-past_of w (r ∷ rs) = ap suc (length-past_of (undone r w) rs)

-- the newest records tell the newest states
pub past_of-take : (n : ℕ) (w : HeapState) (rs : List Undo) → past_of w (take n rs) ≡ take n (past_of w rs)
past_of-take zero w [] = refl
past_of-take zero w (r ∷ rs) = refl
past_of-take (suc n) w [] = refl
past_of-take (suc n) w (r ∷ rs) = ap (λ vs. undone r w ∷ vs) (past_of-take n (undone r w) rs)

pub recorded-take : (n : ℕ) (w : HeapState) (rs : List Undo) → AreRecorded w rs → AreRecorded w (take n rs)
recorded-take zero w [] h = h
recorded-take zero w (r ∷ rs) h = recorded_state_is_legal w (past_of w (r ∷ rs)) (r ∷ rs) h
recorded-take (suc n) w [] h = h
recorded-take (suc n) w (r ∷ rs) h = (h.0, recorded-take n (undone r w) rs h.1)

-- a machine's trail is legal
pub is_trail : (ids : IdSize) (w : HeapState) (ring : Buffer Undo) (place keep : ℕ) (ps : Pins) → IsRetaining w ring place keep → IsTrail keep (machine_with ids w ring place keep ps).trail
is_trail ids w ring place keep ps k = record {
  steps = k.recorded;
  few = omega (arith, k.few, length-past_of w ring.items);
  placed = omega (arith, k.placed, length-past_of w ring.items);
}
