-- The states of the cells of a region, as they are found.
use Rattle.std.specs.Prelude.{◌≡◌, ◌≢◌, ◌≤◌, ◌<◌, ℕ, Bool, true, List, length, Option, Some, None, slice_index_or}
use Rattle.heap_class.specs.declared.ObjRef.{ObjRef}
use Rattle.heap_region.specs.Regions.{Object, UsedRegion, Region, cell_object, object_at}
use Rattle.heap_pins.specs.Pin.{PinContents, byte_in, cell_state, place, state_kept, state_seen}
use Rattle.heap_pins.specs.Walk.{dead_state}

-- a cell of region r
abbrev pub cell_of : ℕ → ℕ → ObjRef
cell_of r c = record { region = r; cell = c }

-- the first n of 256 bytes are f of the cells of region r
pub record AreOf (f : ObjRef → ℕ) (r n : ℕ) (bytes : List ℕ) : Type 0 where
  pub count : length bytes ≡ 256
  pub each : (c : ℕ) → c < n → slice_index_or bytes c 0 ≡ f (cell_of r c)

-- none of the cells of region r from one to another has state 1 by f
abbrev pub HasNone : (ObjRef → ℕ) → ℕ → ℕ → ℕ → Type 0
HasNone f r from to = (c : ℕ) → from ≤ c → c < to → f (cell_of r c) ≢ 1

-- the result is the first cell of region r from one on that has state 1 by f
unfoldable pub IsFirstIn : (ObjRef → ℕ) → ℕ → ℕ → Option ℕ → Type 0
IsFirstIn f r from None = HasNone f r from 256
IsFirstIn f r from (Some c) =
    (from ≤ c) × (c < 256) × (f (cell_of r c) ≡ 1) × HasNone f r from c

-- with the flag the pin shows a live object in this cell of one of these regions
abbrev pub IsShownIf : Bool → PinContents → List Region → ℕ → ℕ → Type 0
IsShownIf flag p regions r c =
    flag ≡ true → (r < length regions) × (state_seen p regions (cell_of r c) ≡ 1)

-- the result is the first of n cells, by number, from number k on that has state 1 by f
unfoldable pub IsFirstPlace : (ObjRef → ℕ) → ℕ → ℕ → Option ObjRef → Type 0
IsFirstPlace f n k None = (j : ℕ) → k ≤ j → j < n → f (place j) ≢ 1
IsFirstPlace f n k (Some at) =
    (j : ℕ) × (k ≤ j) × (j < n) × (at ≡ place j) × (f at ≡ 1)
    × ((i : ℕ) → k ≤ i → i < j → f (place i) ≢ 1)

-- ---- the states of a region without a copy, by what the step's record has of it

-- the states of all cells of these regions
abbrev pub cell_states : List Region → ObjRef → ℕ
cell_states regions at = cell_state (object_at regions at)

-- the states that the pin shows if the cells have these now
abbrev pub states_by : PinContents → (ObjRef → ℕ) → ObjRef → ℕ
states_by p now at = state_kept p.ended (byte_in p.cells at) (now at)

-- the states of the cells of a region
abbrev pub storage_states : UsedRegion → ObjRef → ℕ
storage_states storage at = cell_state (cell_object storage at.cell)

-- the states that a pin shows of the cells of a region in use without a copy, by their bytes
abbrev pub state_by : Bool → List ℕ → UsedRegion → ObjRef → ℕ
state_by ended bytes storage at =
    state_kept ended (slice_index_or bytes at.cell 0) (storage_states storage at)

-- the states in a region that was moved out
abbrev pub state_in_storage : PinContents → UsedRegion → ObjRef → ℕ
state_in_storage p storage = states_by p (storage_states storage)

-- the states of the cells of a region after the dead objects are back
pub record AreRestored (dead : List (ℕ × Object)) (old states : List ℕ) : Type 0 where
  pub count : length states ≡ length old
  pub each : (c : ℕ) → slice_index_or states c 0 ≡ dead_state dead c (slice_index_or old c 0)

-- the states of the cells of a region without a copy, by their bytes and the old ones
pub record AreSettled (ended : Bool) (bytes old states : List ℕ) : Type 0 where
  pub count : length states ≡ length old
  pub each : (c : ℕ) → c < 256
      → slice_index_or states c 0
      ≡ state_kept ended (slice_index_or bytes c 0) (slice_index_or old c 0)
