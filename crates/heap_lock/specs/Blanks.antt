-- What a heap is made of.
use Rattle.std.specs.Prelude.{◌≡◌, ℕ, ◌+◌, Bool, List, [], ◌∷◌, map}
use mathlib.Core.Option.{some}
use lib.ListN.{get_elem?}
use Rattle.atomic_table.specs.Seated.{TableId}
use Rattle.heap_world.specs.Limits.{HeapSettings}
use Rattle.heap_trail.specs.Machine.{Machine, opening_machine}
use Rattle.heap_lock.specs.declared.role.Role.{Role}
use Rattle.heap_lock.specs.declared.unnamed_seat.UnnamedSeat.{UnnamedSeat}
use Rattle.heap_lock.specs.SeatEntries.{entries_in}
use Rattle.heap_lock.specs.HomeTables.{SeatTable, Ledger, table_of}
use Rattle.heap_lock.specs.LockStates.{SeatModel, table_at, IsSeatModel, IsSeatTable}
use Rattle.heap_lock.specs.Ledgers.{HasCalls}

-- a heap that isn't open yet: its settings, whether old entries are dropped instead of refusing new ones, the table of each seat
-- and that of the ledger, and its seats
pub record Maker : Type 0 where
  pub config : HeapSettings
  pub rolls : Bool
  pub tables : List TableId
  pub ledger : TableId
  pub seats : List SeatModel

-- a heap of these settings, with these tables and this ledger, that drops old entries or doesn't
abbrev pub IsNamed : HeapSettings → List TableId → TableId → Bool → Maker → Type 0
IsNamed config tables ledger rolls b =
    (b.config ≡ config) × (b.tables ≡ tables) × (b.ledger ≡ ledger) × (b.rolls ≡ rolls)

-- seats of these roles, numbered from n, that have done nothing
abbrev pub seat_models : ℕ → List Role → List SeatModel
seat_models n [] = []
seat_models n (r ∷ rs) = record { number = n; role = r; share = [] } ∷ seat_models (n + 1) rs

-- a seat as contracts see it
abbrev pub seat_model_of : UnnamedSeat → SeatModel
seat_model_of s = record { number = s.number; role = s.role; share = entries_in s.share.views }

-- the tables of all seats, in order
abbrev pub tables_of : List SeatTable → List TableId
tables_of seat_tables = map table_of seat_tables

-- a heap that is made of these settings, tables of seats, ledger and seats
abbrev pub maker_of : HeapSettings → Bool → List SeatTable → Ledger → List UnnamedSeat → Maker
maker_of config rolls seat_tables ledger unnamed_seats =
    record {
      config = config;
      rolls = rolls;
      tables = tables_of seat_tables;
      ledger = table_of ledger;
      seats = map seat_model_of unnamed_seats;
    }

-- each half of a seat fits its table
abbrev pub AllUnnamed : List TableId → List UnnamedSeat → Type 0
AllUnnamed tables [] = Unit {0}
AllUnnamed tables (s ∷ ss) = IsSeatModel tables s.number s.share × AllUnnamed tables ss

-- each seat has its own table, and no entry
abbrev pub AllFresh : List SeatTable → Type 0
AllFresh seat_tables =
    (n : ℕ) (d : SeatTable) → get_elem? seat_tables n ≡ some d → IsSeatTable (table_at (tables_of seat_tables) n) [] d

-- a lock that nobody has used: an opening machine, no entry of a seat, no call seen
pub record IsBlank (config : HeapSettings) (machine : Machine) (seat_tables : List SeatTable)
    (unnamed_seats : List UnnamedSeat) (ledger : Ledger) : Type 0 where
  pub machine_is : machine ≡ opening_machine config.limits config.ids config.regions config.mutators config.keep
  pub tables_are : AllFresh seat_tables
  pub unnamed_are : AllUnnamed (tables_of seat_tables) unnamed_seats
  pub ledger_is : HasCalls (table_of ledger) [] ledger
