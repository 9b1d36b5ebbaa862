-- What a pin keeps of the regions.
use Rattle.std.specs.Prelude.{◌≡◌, ◌==◌, ℕ, Bool, false, List, [], length, Option, Some, None, replicate, slice_index_or, if◌then◌else◌}
use Rattle.heap_class.specs.declared.ObjRef.{ObjRef}
use Rattle.heap_region.specs.RegionCopies.{Frozen}
use Rattle.heap_pins.specs.Pin.{byte_in}

-- for each region its copy, if there is one, and 256 bytes
pub record KeptContents : Type 0 where
  pub copies : List (Option Frozen)
  pub cells : List (List ℕ)

-- the bytes of a region of which nothing is kept
unfoldable pub blank : List ℕ
blank = replicate 256 0

-- nothing is kept of n regions
abbrev pub nothing_kept : ℕ → KeptContents
nothing_kept n = record { copies = replicate n None; cells = replicate n blank }

-- without the flag there is no copy of region r, and its bytes are blank
abbrev pub IsKeptOf : Bool → KeptContents → ℕ → Type 0
IsKeptOf any k r =
    any ≡ false
    → (slice_index_or k.copies r None ≡ None) × (slice_index_or k.cells r [] ≡ blank)

-- the byte of a cell after all objects were made live, which is its state if the region has a copy
abbrev pub byte_revived : Option Frozen → ℕ → ℕ
byte_revived (Some f) byte = if byte == 0 then 0 else 1
byte_revived None byte = byte

-- all objects were made live of the regions with a copy
pub record IsRevivedTable (old new : KeptContents) : Type 0 where
  pub copies : new.copies ≡ old.copies
  pub count : length new.cells ≡ length old.cells
  pub sizes : (r : ℕ)
      → length (slice_index_or new.cells r []) ≡ length (slice_index_or old.cells r [])
  pub bytes : (at : ObjRef) → byte_in new.cells at
      ≡ byte_revived (slice_index_or old.copies at.region None) (byte_in old.cells at)
