-- Slots that tell the places of identifiers.
use Rattle.std.specs.Prelude.{◌≡◌, ◌≢◌, ◌+◌, ◌-◌, ◌*◌, ◌/◌, ◌%◌, ◌^◌, ◌<◌, ◌≤◌, ℕ, List, nat_eq, nat_lt, length, position, slice_index, Some, None, if◌then◌else◌}
use Rattle.id_table.specs.declared.probing.Sought.{Sought}
use Rattle.id_table.specs.declared.probing.Sought.TheVariants.{Found, Empty, Full}

-- what contracts see of a table: the identifiers in order
pub record Ids : Type 0 where
  pub keys : List ℕ

-- the first of this many slots for an identifier
unfoldable pub home : ℕ → ℕ → ℕ
home size id = id * 0x9e3779b97f4a7c15 % 2 ^ 64 / 2 ^ 32 * size / 2 ^ 32

-- the slot that is d slots behind this one, where the first comes after the last
abbrev pub slot_after : ℕ → ℕ → ℕ → ℕ
slot_after size at d = if nat_lt (at + d) size then at + d else (at + d) - size

-- what is in the slot of an identifier that is looked at after d others
abbrev pub looked_at : List ℕ → ℕ → ℕ → ℕ
looked_at slots id d = slice_index slots (slot_after (length slots) (home (length slots) id) d)

-- none of the first d slots of an identifier is empty
abbrev pub AreNoneEmpty : List ℕ → ℕ → ℕ → Type 0
AreNoneEmpty slots id d = (e : ℕ) → e < d → looked_at slots id e ≢ 0

-- the number is in a slot of an identifier, behind slots that aren't empty
pub record IsNumberPlaced (slots : List ℕ) (id number : ℕ) : Type 0 where
  pub others : ℕ
  pub within : others < length slots
  pub there : looked_at slots id others ≡ number
  pub taken : AreNoneEmpty slots id others

-- the slot is the first empty one for an identifier
pub record IsFree (slots : List ℕ) (id at : ℕ) : Type 0 where
  pub others : ℕ
  pub within : others < length slots
  pub there : at < length slots
  pub place : at ≡ slot_after (length slots) (home (length slots) id) others
  pub empty : slice_index slots at ≡ 0
  pub taken : AreNoneEmpty slots id others

-- the slots have the numbers, from 1 on, of the first n of these identifiers, and no other numbers
pub record AreNumbersPlaced (slots ids : List ℕ) (n : ℕ) : Type 0 where
  pub placed : (i : ℕ) → i < n → IsNumberPlaced slots (slice_index ids i) (i + 1)
  pub numbers : (k : ℕ) → slice_index slots k ≤ n

-- the slots are those of these identifiers, of which no two are the same
pub record IsIdTable (slots ids : List ℕ) : Type 0 where
  pub placed : AreNumbersPlaced slots ids (length ids)
  pub few : length ids < 2 ^ 32
  pub size : length slots < 2 ^ 32
  pub once : (i : ℕ) → i < length ids → position (nat_eq (slice_index ids i)) ids ≡ Some i

-- what is found when an identifier is looked for
abbrev pub IsProbed : List ℕ → List ℕ → ℕ → Sought → Type 0
IsProbed slots ids id (Found i) = position (nat_eq id) ids ≡ Some i
IsProbed slots ids id (Empty at) = (position (nat_eq id) ids ≡ None) × IsFree slots id at
IsProbed slots ids id Full = position (nat_eq id) ids ≡ None
