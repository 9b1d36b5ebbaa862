-- The chronicle: what was done, and how much of it is kept.
use Rattle.std.specs.Prelude.{◌≡◌, ℕ, ◌+◌, ◌-◌, ◌*◌, ◌/◌, ◌<◌, ◌≤◌, ◌⊎◌, ◌==◌, Bool, false, true, List, [], ◌++◌, drop, length, map, Option, if◌then◌else◌}
use Rattle.heap_trail.specs.Limits.{last_place}
use Rattle.heap_history.specs.declared.entry.Entry.{Entry}
use Rattle.heap_history.specs.Blocks.{BlockState}
use Rattle.heap_history.specs.Kept.{kept_entries}
use Rattle.heap_history.specs.Limits.{block_limit}

-- what was done, in order; whether old entries are dropped instead of refusing new ones; and how many more it has room for
pub record ChronicleState : Type 0 where
  pub entries : List Entry
  pub rolls : Bool
  pub room : ℕ

-- of this number of entries, how many are dropped: all blocks but the last two, of which only the last may have room
abbrev pub dropped_of : Bool → ℕ → ℕ
dropped_of false n = 0
dropped_of true n = block_limit * ((n - 1) / block_limit - 1)

-- the entries that were noted
unfoldable pub entries_of : List (Entry × Unit {0}) → List Entry
entries_of noted = map (λ n. n.0) noted

-- the older of two blocks is full, or nothing was dropped before it and it is empty
abbrev pub IsOlderBlock : List (Option Entry) → ℕ → Type 0
IsOlderBlock older dropped = ((older ≡ []) × (dropped ≡ 0)) ⊎ (length older ≡ block_limit)

-- two blocks have what is kept of all entries but the first ones, which were dropped
pub record AreKept (older newer : List (Option Entry)) (dropped : ℕ) (entries : List Entry) : Type 0 where
  pub within : dropped ≤ length entries
  pub kept : drop dropped (kept_entries entries) ≡ older ++ newer
  pub older_is : IsOlderBlock older dropped
  pub newer_fits : length newer ≤ block_limit

-- the same, and as many were dropped as have to be
abbrev pub IsChronicle : List (Option Entry) → List (Option Entry) → ℕ → Bool → List Entry → Type 0
IsChronicle older newer dropped rolls entries =
    AreKept older newer dropped entries × (dropped ≡ dropped_of rolls (length entries))
    × (length entries ≤ last_place)

-- how many entries more two blocks have room for, the older one if the newer one is full
abbrev pub room_of : BlockState → BlockState → ℕ
room_of older newer = if length newer.entries == block_limit then older.room else newer.room

-- two blocks keep entries, and with one more in the newer block they are as they have to be
abbrev pub HaveWay : BlockState → BlockState → ℕ → Bool → List Entry → Type 0
HaveWay older newer dropped rolls es =
    AreKept older.entries newer.entries dropped es × (length newer.entries < block_limit)
    × (dropped ≡ dropped_of rolls (length es + 1))
