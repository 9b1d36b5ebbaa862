-- For proofs: the words and headers of a region in use, or of the regions that a large object takes.
use Rattle.std.specs.Prelude.{ℕ, List, Option}
use Rattle.heap_region.specs.declared.block.Parts.{Parts}
use Rattle.heap_region.specs.declared.block.Parts.TheVariants.{Region, Large}
use Rattle.heap_region.specs.declared.cell.Header.{Header}

-- the words, and the headers of the cells
pub record Contents : Type 0 where
  pub words : List ℕ
  pub headers : List (Option Header)

-- the words and the headers, as they are allocated
abbrev pub contents_of : Parts → Contents
contents_of (Region b) = record { words = b.value.words; headers = b.value.headers }
contents_of (Large b) = record { words = b.value.words.items; headers = b.value.headers }
