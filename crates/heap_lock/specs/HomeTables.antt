-- Tables of one word, their seats and badges.
use Rattle.std.specs.Prelude.{◌≡◌, [], ◌∷◌}
use Rattle.atomic_table.specs.Seated.{TableId}
use Rattle.atomic_table.specs.declared.badge.Badge.{Badge}
use Rattle.atomic_table.specs.declared.shared.Seat.{Seat}
use Rattle.heap_lock.specs.declared.home_table.HomeTable.{HomeTable}
use Rattle.heap_lock.specs.declared.ledger_side.LedgerSide.{LedgerSide}
use Rattle.heap_lock.specs.declared.table_side.TableSide.{TableSide}

-- the table of a seat, with the copy of its entries under the lock
abbrev pub SeatTable : Type 0
SeatTable = HomeTable TableSide

-- the table of a ledger, with its own side
abbrev pub Ledger : Type 0
Ledger = HomeTable LedgerSide

-- the table
abbrev pub table_of : {V : Type 0} → HomeTable V → TableId
table_of t = t.table.shared.table_id

-- the seat is one of this table, with this side
abbrev pub IsSeatOf : {V : Type 0} → TableId → V → Seat (Unit {0}) V → Type 0
IsSeatOf table v s = (s.table_id ≡ table) × (s.me ≡ (v, []))

-- the badge is one of this table, with this side
abbrev pub IsBadgeOf : {V : Type 0} → TableId → V → Badge V → Type 0
IsBadgeOf table v b = (b.table_id ≡ table) × (b.views ≡ v ∷ [])
