-- The table of what is kept: for each region a number, 0 for nothing and suc i for the item of index i.
use Rattle.std.specs.Prelude.{◌≡◌, ◌⊎◌, ◌<◌, ◌≤◌, ◌==◌, ℕ, zero, suc, Bool, List, [], ◌∷◌, length, map, Option, Some, None, is_some, slice_get, slice_index_or, if◌then◌else◌}
use Rattle.heap_region.specs.Limits.{region_limit}
use Rattle.heap_region.specs.RegionCopies.{Frozen}
use Rattle.heap_pins.specs.KeptRegions.{blank, byte_revived}
use Rattle.heap_pins.specs.declared.kept.KeptRegion.{KeptRegion}

-- the copy of an item
abbrev pub item_copy : Option KeptRegion → Option Frozen
item_copy None = None
item_copy (Some k) = k.copy

-- the bytes of an item
abbrev pub item_bytes : Option KeptRegion → List ℕ
item_bytes None = blank
item_bytes (Some k) = k.cells

-- the item that a number leads to
unfoldable pub item_at : List KeptRegion → ℕ → Option KeptRegion
item_at kept zero = None
item_at kept (suc i) = slice_get kept i

-- the copy in it
abbrev pub copy_in : List KeptRegion → ℕ → Option Frozen
copy_in kept slot = item_copy (item_at kept slot)

-- the bytes in it
abbrev pub bytes_in : List KeptRegion → ℕ → List ℕ
bytes_in kept slot = item_bytes (item_at kept slot)

-- how many numbers aren't 0
unfoldable pub count_used : List ℕ → ℕ
count_used [] = 0
count_used (zero ∷ slots) = count_used slots
count_used (suc i ∷ slots) = suc (count_used slots)

-- each number leads to an item of its own, and there is room for an item for each region
pub record AreSlots (slots : List ℕ) (kept : List KeptRegion) (capacity : ℕ) : Type 0 where
  pub few : length slots ≤ region_limit
  pub room : length slots ≤ capacity
  pub count : length kept ≡ count_used slots
  pub within : (r : ℕ) → slice_index_or slots r 0 ≤ length kept
  pub apart : (q r : ℕ) → slice_index_or slots q 0 ≡ slice_index_or slots r 0
      → (slice_index_or slots r 0 ≡ 0) ⊎ (q ≡ r)

-- each region's flag tells whether it has a copy
pub record IsTable (copied : List Bool) (slots : List ℕ) (kept : List KeptRegion)
    (capacity : ℕ) : Type 0 where
  pub table : AreSlots slots kept capacity
  pub flags : copied ≡ map is_some (map (copy_in kept) slots)

-- the numbers and items after a change show the same copies and bytes, and the number of region r leads to item i
pub record IsSlotFor (old : List ℕ) (before : List KeptRegion) (slots : List ℕ)
    (kept : List KeptRegion) (r i : ℕ) : Type 0 where
  pub slot : slice_index_or slots r 0 ≡ suc i
  pub within : i < length kept
  pub count : length slots ≡ length old
  pub copies : map (copy_in kept) slots ≡ map (copy_in before) old
  pub cells : map (bytes_in kept) slots ≡ map (bytes_in before) old

-- a byte after all objects were made live
abbrev pub IsByteRevived : ℕ → ℕ → Type 0
IsByteRevived old new = new ≡ (if old == 0 then 0 else 1)

-- an item after the same, if it has a copy
pub record IsItemRevived (old new : Option KeptRegion) : Type 0 where
  pub copy : item_copy new ≡ item_copy old
  pub count : length (item_bytes new) ≡ length (item_bytes old)
  pub bytes : (c : ℕ) → slice_index_or (item_bytes new) c 0
      ≡ byte_revived (item_copy old) (slice_index_or (item_bytes old) c 0)

-- all items after the same
pub record AreRevived (old new : List KeptRegion) : Type 0 where
  pub count : length new ≡ length old
  pub each : (i : ℕ) → IsItemRevived (slice_get old i) (slice_get new i)
