-- The table of a seat with the copy of its entries under the lock, and the share.
use Rattle.std.specs.Prelude.{◌≡◌, List, [], ◌∷◌, ◌++◌}
use Rattle.atomic_table.specs.Seated.{TableId}
use Rattle.atomic_table.specs.declared.badge.Badge.{Badge}
use Rattle.heap_lock.specs.declared.table_side.TableSide.{TableSide}
use Rattle.heap_lock.specs.declared.table_side.TableSide.TheVariants.{Whole, UnderLock, WithSeat}
use Rattle.heap_lock.specs.HomeTables.{SeatTable, IsBadgeOf, IsSeatOf, table_of}
use Rattle.heap_lock.specs.SeatEntries.{TurnedEntry, entries_of}

-- no share is split off yet, and nothing is noted
abbrev pub IsUnsplit : SeatTable → Type 0
IsUnsplit d = ((table_of d).words ≡ 1) × IsSeatOf (table_of d) (Whole [] []) d.own

-- the share is split off, and the copy under the lock is there
abbrev pub HasCopy : SeatTable → Type 0
HasCopy d =
    ((table_of d).words ≡ 1) × IsSeatOf (table_of d) (UnderLock (entries_of d.own.me.0)) d.own

-- the same tables, and these entries under the lock
abbrev pub CopiesAs : SeatTable → SeatTable → List TurnedEntry → Type 0
CopiesAs d d' entries =
    (table_of d' ≡ table_of d) × IsSeatOf d.own.table_id (UnderLock entries) d'.own

-- a share of this table with this list
abbrev pub IsShare : TableId → List TurnedEntry → Badge TableSide → Type 0
IsShare table entries b = IsBadgeOf table (WithSeat entries) b

-- the entries under the lock with one more
abbrev pub entries_with : SeatTable → TurnedEntry → List TurnedEntry
entries_with d noted = entries_of d.own.me.0 ++ noted ∷ []
