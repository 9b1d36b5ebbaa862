-- A slot is listed as the model sees it.
use Rattle.std.proofs.Common.{◌≡◌, ℕ, ◌<◌, ◌≤◌, List, length, get_or, Some, None, refl, sym, ap, ◌∙◌}
use Rattle.std.specs.Prelude.{option_map, slice_get}
use Rattle.std.proofs.lemmas.Option.{slice_get-get_or, slice_get-map, slice_get_past}
use Rattle.heap_world.specs.State.{HeapState}
use Rattle.heap_trail.specs.declared.held.Held.{Held}
use Rattle.heap_trail.specs.declared.held.Held.TheVariants.{Kept, Lost}
use Rattle.heap_trail.specs.declared.held.NumberedPin.{NumberedPin}
use Rattle.heap_trail.specs.declared.listing.ListedPin.{ListedPin}
use Rattle.heap_trail.specs.declared.listing.PinStatus.{PinStatus}
use Rattle.heap_trail.specs.Listings.{status_of, held_status, listed_pin, listed_slot}
use Rattle.heap_trail.specs.OpenPins.{pins_of, state_of}
use Rattle.heap_trail.proofs.PinSearch.{seen}

same_status : (w : HeapState) (h : Held) → held_status h ≡ status_of (state_of w h)
unfolding held_status status_of state_of
same_status w (Kept place pin cursor given) = refl
same_status w (Lost place cause) = refl

same_listed : (w : HeapState) (s : NumberedPin) → listed_slot s ≡ listed_pin (seen w s)
unfolding listed_slot listed_pin
same_listed w s = ap (λ (t : PinStatus). (let r : ListedPin = record { number = s.number; status = t } in r)) (same_status w s.held)

-- the slot at a place
pub slot_listed : (w : HeapState) (next i : ℕ) (ss : List NumberedPin) (s : NumberedPin) → i < length ss → s ≡ get_or ss i s
    → Some (listed_slot s) ≡ option_map listed_pin (slice_get (pins_of w next ss).open_pins i)
unfolding pins_of
slot_listed w next i ss s lt here =
    ap Some (same_listed w s)
    ∙ sym (ap (option_map listed_pin) (slice_get-map (seen w) ss i ∙ ap (option_map (seen w)) (slice_get-get_or ss i s lt ∙ ap Some (sym here))))

-- past the last there is none
pub none_listed : (w : HeapState) (next i : ℕ) (ss : List NumberedPin) → length ss ≤ i → None ≡ option_map listed_pin (slice_get (pins_of w next ss).open_pins i)
unfolding pins_of
none_listed w next i ss past =
    sym (ap (option_map listed_pin) (slice_get-map (seen w) ss i ∙ ap (option_map (seen w)) (slice_get_past ss i past)))
