-- What a region shows that was turned less far than the heap, by its storage as it is kept.
use Rattle.std.proofs.Common.{◌≡◌, ℕ, ◌<◌, List, length, map, Option, Some, None, IsSome, IfSome, option_map, get_or, set, refl, sym, ap, subst, ◌∙◌, arith}
use Rattle.heap_region.specs.Regions.{UsedRegion, slot_object}
use Rattle.heap_region.specs.Layout.{IsWholeRegion, changed_at, word_set, words_of}
use Rattle.heap_region.specs.Quarters.{since}
use Rattle.heap_region.specs.Slots.{in_slot, kept_slot, shown_slot}
use Rattle.heap_region.specs.Table.{first_in, free_class_of}
use Rattle.heap_region.specs.declared.quarter.Quarter.{Quarter}
use Rattle.heap_region.specs.declared.slots.Slot.{Slot}
use Rattle.heap_region.specs.declared.slots.Slot.TheVariants.{Empty, Used}
use Rattle.heap_region.proofs.LateTurns.{class_of_turned, first_of_turned, whole_turned, word_set_in_turned, words_of_turned}
use Rattle.heap_region.proofs.SlotReads.{slot_changed, slot_read_again, slot_shows}

-- a free class
pub class_shown : (t : Quarter) (s : Slot) → free_class_of (kept_slot s) ≡ free_class_of (shown_slot t s)
class_shown t Empty = refl
class_shown t (Used seen u) = sym (class_of_turned (since t seen) u)

-- the head of a free list
pub first_shown : (t : Quarter) (s : Slot) → first_in (kept_slot s) ≡ first_in (shown_slot t s)
first_shown t Empty = refl
first_shown t (Used seen u) = sym (first_of_turned (since t seen) u)

pub whole_if_kept : (t : Quarter) (s : Slot) → IfSome (kept_slot s) (λ u. IsWholeRegion u) → IfSome (shown_slot t s) (λ u. IsWholeRegion u)
whole_if_kept t Empty whole = whole
whole_if_kept t (Used seen u) whole = whole_turned (since t seen) u whole

-- the words of an object
words_shown : (t : Quarter) (s : Slot) (cell : ℕ) → words_of (slot_object (kept_slot s) cell) ≡ words_of (slot_object (shown_slot t s) cell)
words_shown t Empty cell = refl
words_shown t (Used seen u) cell = sym (words_of_turned (since t seen) u cell)

-- a word is written
word_written_shown : (t : Quarter) (s : Slot) (cell index value : ℕ) → shown_slot t (in_slot (λ u. changed_at u cell (word_set index value)) s) ≡ option_map (λ u. changed_at u cell (word_set index value)) (shown_slot t s)
word_written_shown t Empty cell index value = refl
word_written_shown t (Used seen u) cell index value = ap Some (word_set_in_turned (since t seen) u cell index value)

-- ---- a place of the table that is found or written

pub words_of_found_slot : (t : Quarter) (slots : List Slot) (r cell : ℕ) (found : Slot) → r < length slots → found ≡ get_or slots r found → words_of (slot_object (kept_slot found) cell) ≡ words_of (slot_object (get_or (map (shown_slot t) slots) r None) cell)
words_of_found_slot t slots r cell found lt read = words_shown t found cell ∙ ap (λ (x : Option UsedRegion). words_of (slot_object x cell)) (slot_shows t slots r found lt read)

pub word_of_slot_written : (t : Quarter) (slots : List Slot) (r cell index value : ℕ) (found new : Slot) → r < length slots → found ≡ get_or slots r found → new ≡ in_slot (λ u. changed_at u cell (word_set index value)) found
    → map (shown_slot t) (set slots r new) ≡ set (map (shown_slot t) slots) r (option_map (λ u. changed_at u cell (word_set index value)) (get_or (map (shown_slot t) slots) r None))
word_of_slot_written t slots r cell index value found new lt read is =
    slot_changed t slots r (λ u. changed_at u cell (word_set index value)) found new lt read (ap (shown_slot t) is ∙ word_written_shown t found cell index value)

pub written_slot_is_whole : (t : Quarter) (slots : List Slot) (r : ℕ) (new : Slot) → r < length slots → IfSome (kept_slot new) (λ u. IsWholeRegion u) → IfSome (get_or (map (shown_slot t) (set slots r new)) r None) (λ u. IsWholeRegion u)
written_slot_is_whole t slots r new lt whole = subst (λ (x : Option UsedRegion). IfSome x (λ u. IsWholeRegion u)) (sym (slot_read_again t slots r new lt)) (whole_if_kept t new whole)

-- ---- a region that is known to be in use

pub headed_region_is_used : (x : Option UsedRegion) → IsSome (first_in x) → IsSome x
headed_region_is_used None some = some
headed_region_is_used (Some u) some = refl

pub region_of_words_is_used : (x : Option UsedRegion) (cell index : ℕ) → index < length (words_of (slot_object x cell)) → IsSome x
region_of_words_is_used None cell index lt = absurd (omega arith)
region_of_words_is_used (Some u) cell index lt = refl
