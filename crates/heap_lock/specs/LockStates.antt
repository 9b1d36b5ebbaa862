-- What lies under the lock, what a seat has, and what an act does to both.
use Rattle.std.specs.Prelude.{◌≡◌, ℕ, ◌+◌, ◌<◌, ◌≤◌, ◌⊎◌, Bool, List, [], ◌∷◌, ◌++◌, length, slice_index_or, Result, IfOk, IfErr, OnErr}
use mathlib.Core.Option.{some}
use lib.ListN.{get_elem?}
use Rattle.atomic_table.specs.Seated.{TableId}
use Rattle.atomic_table.specs.declared.badge.Badge.{Badge}
use Rattle.heap_class.specs.declared.Refusal.{Refusal}
use Rattle.heap_class.specs.declared.Refusal.TheVariants.{NoMemory, ChronicleFull}
use Rattle.heap_world.specs.Limits.{HeapSettings}
use Rattle.heap_trail.specs.declared.Action.{Action}
use Rattle.heap_trail.specs.declared.Reply.{Reply}
use Rattle.heap_trail.specs.Machine.{MayReply, Machine}
use Rattle.heap_lock.specs.HomeTables.{SeatTable}
use Rattle.heap_history.specs.declared.entry.Entry.{Entry}
use Rattle.heap_history.specs.declared.entry.Outcome.{Outcome}
use Rattle.heap_history.specs.declared.receipt.Receipt.{Receipt}
use Rattle.heap_lock.specs.declared.role.Role.{Role}
use Rattle.heap_lock.specs.declared.table_side.TableSide.{TableSide}
use Rattle.heap_lock.specs.declared.table_side.TableSide.TheVariants.{UnderLock, WithSeat}
use Rattle.heap_history.specs.Limits.{entry_limit}
use Rattle.heap_history.specs.Chronicles.{ChronicleState}
use Rattle.heap_history.specs.History.{entry, reply_of, opening, trail_after, IsDue, IsLegalHistory, history_trail, entries_by}
use Rattle.heap_lock.specs.SeatEntries.{entries_in}
use Rattle.heap_lock.specs.Calls.{Call, IsHeapLedger}

-- a seat: its number, its role, and its share of the chronicle, each entry with its turn
pub record SeatModel : Type 0 where
  pub number : ℕ
  pub role : Role
  pub share : List (ℕ × Entry)

-- what lies under the lock: the machine, all entries, whether old ones are dropped instead of refusing new ones, and all calls,
-- of which no code stores the list
pub record LockState : Type 0 where
  pub machine : Machine
  pub chronicle : List Entry
  pub rolls : Bool
  pub ledger : List Call

-- this machine, this chronicle and these calls
abbrev pub lock_state : Machine → ChronicleState → List Call → LockState
lock_state m c calls =
    record {
      machine = m;
      chronicle = c.entries;
      rolls = c.rolls;
      ledger = calls;
    }

-- each entry names one of n seats
abbrev pub AllSeated : ℕ → List Entry → Type 0
AllSeated n [] = Unit {0}
AllSeated n (e ∷ es) = (e.seat < n) × AllSeated n es

-- a table that stands for none
abbrev pub no_table : TableId
no_table =
    record {
      words = 0;
      slots = 0;
      views_name = 0;
      atom = 0;
      block = 0;
      offset = 0;
      slot_names = [];
    }

-- the table of seat n
abbrev pub table_at : List TableId → ℕ → TableId
table_at tables n = slice_index_or tables n no_table

-- a badge of seat n's table that holds a share
abbrev pub IsSeatModel : List TableId → ℕ → Badge TableSide → Type 0
IsSeatModel tables n b =
    (n < length tables) × (b.table_id ≡ table_at tables n)
    × (b.views ≡ WithSeat (entries_in b.views) ∷ [])

-- this table of a seat, whose copy under the lock has these entries
abbrev pub IsSeatTable : TableId → List (ℕ × Entry) → SeatTable → Type 0
IsSeatTable table entries d =
    (d.table.shared.table_id.words ≡ 1) × (d.table.shared.table_id ≡ table)
    × (d.own.table_id ≡ table) × (d.own.me ≡ (UnderLock entries, []))

-- what holds under the lock: the chronicle is a legal history of the heap's seats, the machine's trail is what it leaves,
-- and each seat's copy under the lock has its entries
pub record IsUnderLock (config : HeapSettings) (tables : List TableId) (machine : Machine)
    (chronicle : List Entry) (seat_tables : List SeatTable) : Type 0 where
  pub legal : IsLegalHistory config.keep (opening config) chronicle
  pub keep : machine.keep ≡ config.keep
  pub ids : machine.ids ≡ config.ids
  pub folds : machine.trail ≡ history_trail config.keep (opening config) chronicle
  pub seated : AllSeated (length tables) chronicle
  pub count : length seat_tables ≡ length tables
  pub booked : (n : ℕ) (d : SeatTable) → get_elem? seat_tables n ≡ some d
      → IsSeatTable (table_at tables n) (entries_by n chronicle) d

-- the machine's trail is what the chronicle leaves
abbrev pub Folds : HeapSettings → LockState → Type 0
Folds config k = k.machine.trail ≡ history_trail config.keep (opening config) k.chronicle

-- the seat with an entry more
abbrev pub with_entry : ℕ → Action → Outcome → SeatModel → SeatModel
with_entry turn action answer s =
    record s { share = s.share ++ (turn, entry s.number action answer) ∷ [] }

-- what an act does to the machine: it goes on as the model says, its trail by the trail alone, and the answer is the one due there
abbrev pub IsMoved : HeapSettings → Action → LockState → Receipt → LockState → Type 0
IsMoved config action k r k' =
    MayReply k.machine action k'.machine (reply_of r.answer)
    × (k'.machine.trail ≡ trail_after config.keep k.machine.trail action)
    × IsDue config.keep k.machine.trail (entry r.seat action r.answer)

-- what it does to the rest: chronicle and share gain the entry with this answer, and the ledger gains the call
abbrev pub IsAct : Action → LockState → SeatModel → Receipt → LockState → SeatModel → Type 0
IsAct action k s r k' s' =
    (k'.chronicle ≡ k.chronicle ++ entry s.number action r.answer ∷ [])
    × (k'.ledger ≡ k.ledger ++ (action, reply_of r.answer) ∷ [])
    × (length k.chronicle < entry_limit k.rolls) × (r.seat ≡ s.number)
    × (r.turn ≡ length k'.chronicle) × (s' ≡ with_entry r.turn action r.answer s)
    × (k'.rolls ≡ k.rolls)

-- what the receipt of an act says of its seat
abbrev pub IsReceived : Action → SeatModel → Receipt → SeatModel → Type 0
IsReceived action s r s' = (r.seat ≡ s.number) × (s' ≡ with_entry r.turn action r.answer s)

-- a refusal of an act that has no entry
abbrev pub IsNoEntry : Refusal → Type 0
IsNoEntry e = (e ≡ NoMemory) ⊎ (e ≡ ChronicleFull)

-- which of the two it is tells whether the chronicle is full
abbrev pub IsRefused : LockState → Refusal → Type 0
IsRefused k e =
    ((e ≡ NoMemory) × (length k.chronicle < entry_limit k.rolls))
    ⊎ ((e ≡ ChronicleFull) × (entry_limit k.rolls ≤ length k.chronicle))

-- some legal history of `turn` turns ends with this entry, and has of the seat just the share
abbrev pub Stands : HeapSettings → SeatModel → ℕ → Action → Outcome → Type 0
Stands config s turn action answer =
    (before : List Entry)
    × IsLegalHistory config.keep (opening config) (before ++ entry s.number action answer ∷ [])
    × (length before + 1 ≡ turn)
    × (entries_by s.number (before ++ entry s.number action answer ∷ []) ≡ s.share)

-- what an act had as its result: it is done, has its entry and a receipt that stands, or nothing has changed
pub record IsHeldAct (config : HeapSettings) (action : Action) (k : LockState) (s : SeatModel)
    (result : Result Receipt Refusal) (k' : LockState) (s' : SeatModel) : Type 0 where
  pub moves : IfOk result (λ r. IsMoved config action k r k')
  pub act : IfOk result (λ r. IsAct action k s r k' s')
  pub stands : IfOk result (λ r. Stands config s' r.turn action r.answer)
  pub refused : IfErr result (λ e. IsRefused k e)
  pub unchanged : OnErr result ((k' ≡ k) × (s' ≡ s))

-- what a dumper's action does: the machine goes on as the model says and replies this, the chronicle stays, and the ledger gains
-- the call
abbrev pub IsDumperAct : Action → LockState → Reply → LockState → Type 0
IsDumperAct action k r k' =
    MayReply k.machine action k'.machine r × (k'.chronicle ≡ k.chronicle)
    × (k'.ledger ≡ k.ledger ++ (action, r) ∷ []) × (k'.rolls ≡ k.rolls)

-- these are all calls of a heap with this machine, whose history is legal and has of the seat just the share
abbrev pub AreAllCalls : HeapSettings → Machine → SeatModel → List Call → Type 0
AreAllCalls config m s calls =
    (chronicle : List Entry) × IsHeapLedger config m chronicle calls
    × (entries_by s.number chronicle ≡ s.share)

-- a caller's seat and what its witness has seen are of one moment of the heap
abbrev pub AreMet : HeapSettings → SeatModel → List Call → Type 0
AreMet config s calls = (m : Machine) × AreAllCalls config m s calls

-- what lies under the lock is what the calls so far leave: they lead to the machine, and their acts are a legal history, which
-- leaves the machine's trail
abbrev pub IsHeap : HeapSettings → Bool → LockState → Type 0
IsHeap config rolls k =
    IsHeapLedger config k.machine k.chronicle k.ledger × Folds config k × (k.rolls ≡ rolls)

-- when the lock was got the heap had a history of which the seat has just its share, and then the act had this result
abbrev pub IsSharedAct : HeapSettings → Bool → Action → SeatModel → Result Receipt Refusal → SeatModel
    → Type 0
IsSharedAct config rolls action s result s' =
    (k k' : LockState) × IsHeap config rolls k × (entries_by s.number k.chronicle ≡ s.share)
    × IsHeldAct config action k s result k' s'
