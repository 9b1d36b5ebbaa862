-- The table of a ledger, and what goes with those who saw a beginning of it.
use Rattle.std.specs.Prelude.{◌≡◌, List, [], ◌∷◌}
use Rattle.atomic_table.specs.Seated.{TableId}
use Rattle.atomic_table.specs.declared.badge.Badge.{Badge}
use Rattle.heap_world.specs.Limits.{HeapSettings}
use Rattle.heap_trail.specs.Machine.{Machine}
use Rattle.heap_history.specs.declared.entry.Entry.{Entry}
use Rattle.heap_lock.specs.declared.ledger_side.LedgerSide.{LedgerSide}
use Rattle.heap_lock.specs.declared.ledger_side.LedgerSide.TheVariants.{Full, Seen}
use Rattle.heap_lock.specs.Calls.{Call, IsLedger}
use Rattle.heap_lock.specs.HomeTables.{Ledger, IsBadgeOf, IsSeatOf, table_of}
use Rattle.heap_lock.specs.LedgerSides.{calls_of}

-- all calls
abbrev pub all_in : Ledger → List Call
all_in l = calls_of l.own.me.0

-- the calls of a badge
abbrev pub calls_in : List LedgerSide → List Call
calls_in [] = []
calls_in (v ∷ vs) = calls_of v

-- a ledger of this table with these calls
abbrev pub HasCalls : TableId → List Call → Ledger → Type 0
HasCalls table calls l =
    (table.words ≡ 1) × (table_of l ≡ table) × IsSeatOf table (Full calls) l.own

-- the same tables, and these calls
abbrev pub CallsAs : Ledger → Ledger → List Call → Type 0
CallsAs l l' calls =
    (table_of l' ≡ table_of l) × IsSeatOf l.own.table_id (Full calls) l'.own

-- these calls were seen of the ledger of this table
abbrev pub AreSeenCalls : TableId → List Call → Badge LedgerSide → Type 0
AreSeenCalls table calls b = IsBadgeOf table (Seen calls) b

-- the ledger of this table has all calls of a heap with this machine and this chronicle
abbrev pub HasLedger : HeapSettings → TableId → Machine → List Entry → Ledger → Type 0
HasLedger config table m chronicle l =
    HasCalls table (all_in l) l × IsLedger config m chronicle (all_in l)
