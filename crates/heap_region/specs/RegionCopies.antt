-- A copy of a region: its cells with the objects in them, and no free list.
use Rattle.std.specs.Prelude.{◌≡◌, ℕ, ◌*◌, List, length, Option, None, option_map, slice_index_or, slice_set}
use Rattle.heap_region.specs.Regions.{Object, UsedRegion, Region, block_words, used_at}
use Rattle.heap_region.specs.Layout.{IsBlockSize, CellHeaderFits, words_of, word_set}
use Rattle.heap_region.specs.declared.cell.Header.{Header}

-- a copy of a region: the size of its cells in words, and the objects in them
pub record Frozen : Type 0 where
  pub cell_size : ℕ
  pub cells : List (Option Object)

-- the copy of a region in use
abbrev pub frozen : UsedRegion → Frozen
frozen u = record { cell_size = u.cell_size; cells = u.cells }

-- the object in a cell, None past the last cell
abbrev pub frozen_object : Frozen → ℕ → Option Object
frozen_object f cell = slice_index_or f.cells cell None

-- the words of the object in a cell, none if there is no object
abbrev pub frozen_words : Frozen → ℕ → List ℕ
frozen_words f cell = words_of (frozen_object f cell)

-- the copy with this object, or with none, in a cell
abbrev pub frozen_with : ℕ → Option Object → Frozen → Frozen
frozen_with cell o f = record f { cells = slice_set f.cells cell o }

-- the copy with this value in a slot of the object in a cell
unfoldable pub frozen_word_set : ℕ → ℕ → ℕ → Frozen → Frozen
frozen_word_set cell slot word f =
    frozen_with cell (option_map (word_set slot word) (frozen_object f cell)) f

-- a copy of region r, or None if it is empty
unfoldable pub region_frozen : List Region → ℕ → Option Frozen
region_frozen regions r = option_map frozen (used_at regions r)

-- these words and headers are those of cells of this size
pub record IsLaid (size : ℕ) (ws : List ℕ) (hs : List (Option Header)) : Type 0 where
  pub sized : IsBlockSize size
  pub words : length ws ≡ block_words size
  pub covers : length hs * size ≡ block_words size
  pub fits : (cell : ℕ) → CellHeaderFits size (slice_index_or hs cell None)
