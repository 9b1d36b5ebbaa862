-- What a pin makes of a step is what it has to keep of it.
use Rattle.std.proofs.Common.{◌≡◌, ◌≢◌, ℕ, Bool, true, false, List, [], ◌∷◌, length, Some, None, refl, sym, ap, ◌∙◌, arith}
use Rattle.std.specs.Prelude.{slice_index_or}
use Rattle.heap_class.specs.declared.ObjRef.{ObjRef}
use Rattle.heap_region.specs.Regions.{Object}
use Rattle.heap_world.specs.State.{HeapState}
use Rattle.heap_step.specs.declared.Event.{Event}
use Rattle.heap_step.specs.declared.Undo.{Undo}
use Rattle.heap_step.specs.declared.Undo.TheVariants.{New, Finish, Sweep}
use Rattle.heap_step.specs.Laws.{IsStep}
use Rattle.heap_step.specs.Records.{undone}
use Rattle.heap_pins.specs.KeptCopies.{copy_for, has_copy, kept, kept_if, states_before_step, touched, with_copy}
use Rattle.heap_pins.specs.Pin.{PinContents, state_seen}
use Rattle.heap_pins.specs.States.{AreOf, AreSettled, cell_of, cell_states}
use Rattle.heap_pins.specs.Walk.{states_before}
use Rattle.heap_pins.proofs.AddedCopies.{free_pin_keeps, settled_pin_stays, settled_states_are_seen}
use Rattle.heap_pins.proofs.CellStates.{bytes_are_states}
use Rattle.heap_pins.proofs.RecordCases.{no_region_is_named}
use Rattle.heap_pins.proofs.States.{cell_states_before_step}

-- ---- a step that touched a region

touched_step_is_kept : (left : Undo) (v : HeapState) (p : PinContents) (r : ℕ) → touched left ≡ Some r → kept_if (Some r) left v p ≡ kept left v p
unfolding kept touched
touched_step_is_kept (New at fresh m k old) v p r t = no_region_is_named r _ t
touched_step_is_kept (Finish log) v p r t = no_region_is_named r _ t
touched_step_is_kept left v p r t = ap (λ x. kept_if x left v p) (sym t)

-- a pin with a copy of the region stays as it is
pub copied_region_keeps_the_pin : (left : Undo) (v : HeapState) (p : PinContents) (r : ℕ) → touched left ≡ Some r → has_copy r p ≡ true → p ≡ kept left v p
unfolding kept_if
copied_region_keeps_the_pin left v p r t some = settled_pin_stays r (copy_for left v r) (states_before_step left v r p) p some ∙ touched_step_is_kept left v p r t

-- any other gets one
pub copied_region_is_kept : (left : Undo) (v : HeapState) (p q : PinContents) (r : ℕ) → touched left ≡ Some r → has_copy r p ≡ false → q ≡ with_copy r (copy_for left v r) (states_before_step left v r p) p → q ≡ kept left v p
unfolding kept_if
copied_region_is_kept left v p q r t free is = is ∙ free_pin_keeps r (copy_for left v r) (states_before_step left v r p) p free ∙ touched_step_is_kept left v p r t

-- the states that the cells had before the step, by what the pin keeps of them, are those that it shows before the step
pub settled_states_are_before_step : (e : Event) (before v : HeapState) (left : Undo) → IsStep e before v left → (p : PinContents) (r : ℕ) (old states : List ℕ) → has_copy r p ≡ false → AreOf (states_before left (cell_states v.regions)) r 256 old
    → AreSettled p.ended (slice_index_or p.cells r []) old states → states ≡ states_before_step left v r p
settled_states_are_before_step e before v left s p r old states free a settled =
    let told : AreOf (cell_states (undone left v).regions) r 256 old = record { count = a.count; each = λ c lt. a.each c lt ∙ sym (cell_states_before_step e before v left s (cell_of r c)) } in
    bytes_are_states (state_seen p (undone left v).regions) r states (settled_states_are_seen p (undone left v).regions r (slice_index_or p.cells r []) old states free told settled refl)

-- ---- a sweep

pub sweep_of_none_touches_none : (region : ℕ) (dead : List (ℕ × Object)) → length dead ≡ 0 → None ≡ touched (Sweep region dead)
unfolding touched
sweep_of_none_touches_none region [] none = refl
sweep_of_none_touches_none region (d ∷ dead) none = absurd (omega (arith, none))

pub sweep_of_some_touches_its_region : (region : ℕ) (dead : List (ℕ × Object)) → length dead ≢ 0 → Some region ≡ touched (Sweep region dead)
unfolding touched
sweep_of_some_touches_its_region region [] some = absurd (some refl)
sweep_of_some_touches_its_region region (d ∷ dead) some = refl

-- ---- a step that touched no region

pub untouching_record_keeps_the_pin : (left : Undo) (v : HeapState) (p : PinContents) → touched left ≡ None → ((at : ObjRef) (fresh : Bool) (m r old : ℕ) → left ≡ New at fresh m r old → ⊥) → ((log : List ℕ) → left ≡ Finish log → ⊥) → p ≡ kept left v p
unfolding kept kept_if
untouching_record_keeps_the_pin (New at fresh m k old) v p none a b = absurd (a at fresh m k old refl)
untouching_record_keeps_the_pin (Finish log) v p none a b = absurd (b log refl)
untouching_record_keeps_the_pin left v p none a b = ap (λ t. kept_if t left v p) (sym none)
