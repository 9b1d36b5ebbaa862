-- What is read and written of one region, where its storage was turned less far than the heap.
use Rattle.std.proofs.Common.{◌≡◌, ℕ, zero, suc, ◌<◌, List, [], ◌∷◌, length, map, Option, None, IsSome, option_map, get_or, set, refl, sym, ap, ◌∙◌, arith, replicate}
use Rattle.std.proofs.lemmas.List.{get_or-map, length-map, map-set}
use Rattle.heap_region.specs.Regions.{UsedRegion}
use Rattle.heap_region.specs.Slots.{shown_slot}
use Rattle.heap_region.specs.declared.quarter.Quarter.{Quarter}
use Rattle.heap_region.specs.declared.slots.Slot.{Slot}
use Rattle.heap_region.specs.declared.slots.Slot.TheVariants.{Empty}
use Rattle.heap_region.proofs.Tables.{in_use_within}

-- the slot that an index finds, whatever stands for one that is missing
slot_found_by_index : (slots : List Slot) (r : ℕ) (found : Slot) → r < length slots → found ≡ get_or slots r found → (other : Slot) → get_or slots r other ≡ found
slot_found_by_index [] r found lt is other = absurd (omega arith)
slot_found_by_index (x ∷ slots) zero found lt is other = sym is
slot_found_by_index (x ∷ slots) (suc r) found lt is other = slot_found_by_index slots r found (omega arith) is other

-- is the region that is shown
pub slot_shows : (turns : Quarter) (slots : List Slot) (r : ℕ) (found : Slot) → r < length slots → found ≡ get_or slots r found → shown_slot turns found ≡ get_or (map (shown_slot turns) slots) r None
slot_shows turns slots r found lt is = sym (get_or-map (shown_slot turns) slots r found None lt ∙ ap (shown_slot turns) (sym is))

-- a region that is shown is there
pub slot_within : (turns : Quarter) (slots : List Slot) (r : ℕ) → r < length (map (shown_slot turns) slots) → r < length slots
slot_within turns slots r lt = omega (arith, lt, length-map slots (shown_slot turns))

pub used_slot_within : (turns : Quarter) (slots : List Slot) (r : ℕ) → IsSome (get_or (map (shown_slot turns) slots) r None) → r < length slots
used_slot_within turns slots r some = slot_within turns slots r (in_use_within (map (shown_slot turns) slots) r some)

-- a slot is written
pub slot_written : (turns : Quarter) (slots : List Slot) (r : ℕ) (new : Slot) (x : Option UsedRegion) → shown_slot turns new ≡ x → map (shown_slot turns) (set slots r new) ≡ set (map (shown_slot turns) slots) r x
slot_written turns slots r new x is = map-set (shown_slot turns) slots r new ∙ ap (set (map (shown_slot turns) slots) r) is

-- as f of what it was
pub slot_changed : (turns : Quarter) (slots : List Slot) (r : ℕ) (f : UsedRegion → UsedRegion) (found new : Slot) → r < length slots → found ≡ get_or slots r found → shown_slot turns new ≡ option_map f (shown_slot turns found) → map (shown_slot turns) (set slots r new) ≡ set (map (shown_slot turns) slots) r (option_map f (get_or (map (shown_slot turns) slots) r None))
slot_changed turns slots r f found new lt read is = slot_written turns slots r new _ (is ∙ ap (option_map f) (slot_shows turns slots r found lt read))

-- and what is read of it then
pub slot_read_again : (turns : Quarter) (slots : List Slot) (r : ℕ) (new : Slot) → r < length slots → get_or (map (shown_slot turns) (set slots r new)) r None ≡ shown_slot turns new
slot_read_again turns slots r new lt = go slots r lt
  where
    go : (slots : List Slot) (r : ℕ) → r < length slots → get_or (map (shown_slot turns) (set slots r new)) r None ≡ shown_slot turns new
    go [] r lt = absurd (omega arith)
    go (x ∷ slots) zero lt = refl
    go (x ∷ slots) (suc r) lt = go slots r (omega arith)

pub empty_slots_shown : (turns : Quarter) (n : ℕ) → map (shown_slot turns) (replicate n Empty) ≡ replicate n None
empty_slots_shown turns zero = refl
empty_slots_shown turns (suc n) = ap (λ (l : List (Option UsedRegion)). None ∷ l) (empty_slots_shown turns n)

-- what a call finds and leaves of one slot
pub ruleset slot_reads = (slot_shows, slot_within, used_slot_within, slot_changed, slot_read_again, slot_written)
