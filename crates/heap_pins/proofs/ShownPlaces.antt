-- The places that a pin shows are those of the live objects of its state.
use Rattle.std.proofs.Common.{◌≡◌, ℕ, zero, suc, ◌+◌, ◌*◌, ◌<◌, Bool, true, false, List, [], ◌∷◌, length, get_or, Option, Some, None, refl, sym, ap, ◌∙◌, arith}
use Rattle.std.specs.Prelude.{◌==◌, if◌then◌else◌}
use Rattle.heap_region.specs.Regions.{Object, Region, object_at, live_places}
use Rattle.heap_world.specs.State.{HeapState}
use Rattle.heap_pins.specs.Pin.{PinContents, cell_state, place, places_from, places_seen, state_seen, states_seen}
use Rattle.heap_pins.specs.Shows.{IsPinOf, ShowsState}
use Rattle.heap_pins.proofs.CellStates.{length_states, state_in_list}
use Rattle.heap_pins.proofs.LiveBytes.{live_byte, live_bytes, bytes_place, length_bytes}

state_live : (o : Option Object) → (cell_state o == 1) ≡ (live_byte o == 1)
state_live None = refl
state_live (Some o) = go o.live
  where
    go : (b : Bool) → ((if b then 1 else 2) == 1) ≡ ((if b then 1 else 0) == 1)
    go true = refl
    go false = refl

bytes_alike_give_same_places : (k : ℕ) (xs ys : List ℕ) → length xs ≡ length ys → ((i : ℕ) → i < length xs → (get_or xs i 0 == 1) ≡ (get_or ys i 0 == 1)) → places_from k xs ≡ places_from k ys
unfolding places_from
bytes_alike_give_same_places k [] [] same each = refl
bytes_alike_give_same_places k [] (y ∷ ys) same each = absurd (omega (arith, same))
bytes_alike_give_same_places k (x ∷ xs) [] same each = absurd (omega (arith, same))
bytes_alike_give_same_places k (x ∷ xs) (y ∷ ys) same each =
    let rest : places_from (k + 1) xs ≡ places_from (k + 1) ys = bytes_alike_give_same_places (k + 1) xs ys (omega (arith, same)) (λ i lt. each (suc i) (omega (arith, lt))) in
    λ i. if each zero (omega arith) i then place k ∷ rest i else rest i

pub length_of_states_seen : (p : PinContents) (regions : List Region) → length (states_seen p regions) ≡ 256 * length regions
unfolding states_seen
length_of_states_seen p regions = length_states (state_seen p regions) 0 (256 * length regions)

state_at : (p : PinContents) (regions : List Region) (i : ℕ) → i < 256 * length regions → get_or (states_seen p regions) i 0 ≡ state_seen p regions (place i)
unfolding states_seen
state_at p regions i lt = state_in_list (state_seen p regions) 0 (256 * length regions) i lt ∙ ap (λ j. state_seen p regions (place j)) (let z : 0 + i ≡ i = omega arith in z)

byte_at : (regions : List Region) (i : ℕ) → i < 256 * length regions → get_or (live_bytes regions) i 0 ≡ live_byte (object_at regions (place i))
unfolding live_bytes
byte_at regions i lt = state_in_list (λ at. live_byte (object_at regions at)) 0 (256 * length regions) i lt ∙ ap (λ j. live_byte (object_at regions (place j))) (let z : 0 + i ≡ i = omega arith in z)

length_of_live_bytes : (regions : List Region) → length (live_bytes regions) ≡ 256 * length regions
unfolding live_bytes
length_of_live_bytes regions = length_bytes regions 0 (256 * length regions)

cell_of_place : (i : ℕ) → (place i).cell < 256
cell_of_place i = omega arith

pub shown_places_are_live : (p : PinContents) (u v : HeapState) → IsPinOf p u → ShowsState p u v → places_seen p v.regions ≡ live_places u.regions
shown_places_are_live p u v pin shows =
    let sized : length (states_seen p v.regions) ≡ 256 * length u.regions = length_of_states_seen p v.regions ∙ ap (λ n. 256 * n) shows.count in
    bytes_alike_give_same_places 0 (states_seen p v.regions) (live_bytes u.regions) (sized ∙ sym (length_of_live_bytes u.regions))
    (λ i lt. ap (λ b. b == 1) (state_at p v.regions i (omega (arith, lt, sized, shows.count)) ∙ shows.states (place i) (cell_of_place i))
    ∙ state_live (object_at u.regions (place i))
    ∙ ap (λ b. b == 1) (sym (byte_at u.regions i (omega (arith, lt, sized)))))
    ∙ bytes_place u.regions pin.legal.regions.tables
