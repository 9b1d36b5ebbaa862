-- The entries of a seat, in two copies.
use Rattle.std.specs.Prelude.{◌≡◌, ℕ, List, [], ◌∷◌, ◌++◌}
use mathlib.Core.Option.{some}
use lib.ListN.{get_elem?}
use Rattle.atomic_table.specs.Table.{Me}
use Rattle.heap_trail.specs.declared.Action.TheVariants.{Rewind}
use Rattle.heap_history.specs.declared.entry.Entry.{Entry}
use Rattle.heap_history.specs.declared.entry.Outcome.TheVariants.{Place}
use Rattle.heap_lock.specs.declared.table_side.TableSide.{TableSide}
use Rattle.heap_lock.specs.declared.table_side.TableSide.TheVariants.{Whole, UnderLock, WithSeat, Spent}

-- an entry with its turn
abbrev pub TurnedEntry : Type 0
TurnedEntry = ℕ × Entry

-- an entry that stands for none
abbrev pub no_entry : TurnedEntry
no_entry = (0, record { seat = 0; action = Rewind 0; answer = Place 0 })

-- the entries of a side, or the copy under the lock of a side with both
abbrev pub entries_of : TableSide → List TurnedEntry
entries_of (Whole xs ys) = xs
entries_of (UnderLock xs) = xs
entries_of (WithSeat ys) = ys
entries_of Spent = []

-- the list of the first side
abbrev pub entries_in : List TableSide → List TurnedEntry
entries_in [] = []
entries_in (v ∷ vs) = entries_of v

-- the same entries, as the copy under the lock
abbrev pub lock_side : TableSide → TableSide
lock_side v = UnderLock (entries_of v)

-- the share of a whole side, which is spent otherwise
abbrev pub seat_side : TableSide → TableSide
seat_side (Whole xs ys) = WithSeat ys
seat_side (UnderLock xs) = Spent
seat_side (WithSeat ys) = Spent
seat_side Spent = Spent

-- the lists of two sides, as a whole one
abbrev pub whole_of : TableSide → TableSide → TableSide
whole_of v w = Whole (entries_of v) (entries_of w)

-- what the rule says of the side of one seat
abbrev pub IsSideOf : ℕ → ℕ → List TurnedEntry → ℕ → TableSide → Type 0
IsSideOf book share entries seat (Whole xs ys) =
    (seat ≡ book) × (seat ≡ share) × (xs ≡ entries) × (ys ≡ entries)
IsSideOf book share entries seat (UnderLock xs) = (seat ≡ book) × (xs ≡ entries)
IsSideOf book share entries seat (WithSeat ys) = (seat ≡ share) × (ys ≡ entries)
IsSideOf book share entries seat Spent = Unit {0}

-- spent sides excepted, one side has the copy under the lock and one the share, each with all entries
abbrev pub AreSeatEntries : List TableSide → Type 0
AreSeatEntries views =
    (book share : ℕ) × (entries : List TurnedEntry)
    × ((seat : ℕ) (v : TableSide) → get_elem? views seat ≡ some v
    → IsSideOf book share entries seat v)

-- the entry is added to both copies, which were equal
abbrev pub IsNoted : TurnedEntry → TableSide → TableSide → Type 0
IsNoted noted (Whole xs ys) w = (ys ≡ xs) × (w ≡ Whole (xs ++ noted ∷ []) (xs ++ noted ∷ []))
IsNoted noted (UnderLock xs) w = Unit {0}
IsNoted noted (WithSeat ys) w = Unit {0}
IsNoted noted Spent w = Unit {0}

-- the side after an entry is noted; the seat holds the same slots
abbrev pub Noted : TurnedEntry → Me (Unit {0}) TableSide → Me (Unit {0}) TableSide → Type 0
Noted noted m n = IsNoted noted m.0 n.0 × (n.1 ≡ m.1)

-- both copies are equal, and the side stays
abbrev pub IsAgreed : TableSide → TableSide → Type 0
IsAgreed (Whole xs ys) w = (ys ≡ xs) × (w ≡ Whole xs ys)
IsAgreed (UnderLock xs) w = Unit {0}
IsAgreed (WithSeat ys) w = Unit {0}
IsAgreed Spent w = Unit {0}

-- the side after the two copies are compared; the seat holds the same slots
abbrev pub Agreed : Me (Unit {0}) TableSide → Me (Unit {0}) TableSide → Type 0
Agreed m n = IsAgreed m.0 n.0 × (n.1 ≡ m.1)
