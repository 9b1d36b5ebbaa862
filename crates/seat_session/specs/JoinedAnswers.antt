-- What a seat at a shared heap answers a line that the grammar of sessions doesn't know.
use Rattle.std.specs.Prelude.{◌≡◌, ◌⊎◌, ℕ, ◌+◌, ◌++◌, Bool, true, false, List, length, map, Option, Some, None, Result, Ok, Err}
use Rattle.std.specs.List.{enumerate_from}
use mathlib.Core.List.{IsPrefix}
use Rattle.heap_lock.specs.Refusal.{Refusal}
use Rattle.heap_lock.specs.Refusal.TheVariants.{NoMemory, NotRetained}
use Rattle.heap_lock.specs.HeapLimits.{HeapSettings}
use Rattle.heap_lock.specs.Calls.{Call, IsHeapLedger, call_of}
use Rattle.heap_lock.specs.Machine.{Machine}
use Rattle.heap_lock.specs.Action.{Action}
use Rattle.heap_lock.specs.Action.TheVariants.{Step, Rewind}
use Rattle.heap_lock.specs.State.{HeapState}
use Rattle.heap_lock.specs.Entry.{Entry}
use Rattle.heap_lock.specs.Outcome.TheVariants.{Answered}
use Rattle.heap_lock.specs.History.{entry, entries_by}
use Rattle.heap_lock.specs.Receipt.{Receipt}
use Rattle.heap_lock.specs.Reply.{Reply}
use Rattle.heap_lock.specs.LockStates.{SeatModel, IsHeldAct, IsNoEntry, LockState}
use Rattle.session_grammar.specs.Reads.{DefinesClass}
use Rattle.session_text.specs.Replies.{reply_text}
use Rattle.question_grammar.specs.Bookmarks.{Bookmarks}
use Rattle.question_text.specs.Notes.{NotesLine}
use Rattle.heap_orders.specs.declared.cycle.CycleCounts.{CycleCounts}
use Rattle.heap_orders.specs.Collections.{IsCycleAnswer, RunsCycle, TakenStep}
use Rattle.question_words.specs.Moments.{steps_ago, refused_text}
use Rattle.question_grammar.specs.declared.order.Order.{Order}
use Rattle.question_grammar.specs.declared.order.Order.TheVariants.{Act, Collect, Forward, ForwardTo, RewindTo}
use Rattle.question_grammar.specs.Orders.{order_in}
use Rattle.question_words.specs.Places.{IsTextOrNoMemory}
use Rattle.heap_orders.specs.Redos.{nothing_to_redo_text}
use Rattle.seat_session.specs.JoinedActs.{IsReply}

-- the calls lead to this machine and are those of this chronicle, which has of the seat just its share
abbrev pub IsHeapOfSeat : HeapSettings → Machine → List Entry → List Call → SeatModel → Type 0
IsHeapOfSeat config m chronicle calls s =
    IsHeapLedger config m chronicle calls × (entries_by s.number chronicle ≡ s.share)

-- the entries of these steps, taken from the seat of this number
abbrev pub entries_of_steps : ℕ → List TakenStep → List Entry
entries_of_steps seat steps =
    map (λ (step : TakenStep). entry seat (Step step.0) (Answered step.1)) steps

-- the seat whose share gained entries, one turn after another from this one on
abbrev pub with_entries : ℕ → List Entry → SeatModel → SeatModel
with_entries turn entries s = record s { share = s.share ++ enumerate_from turn entries }

-- chronicle, calls and share each gained these entries, in this order, and nothing else
pub record Gains (k : LockState) (s : SeatModel) (entries : List Entry) (k' : LockState) (s' : SeatModel)
    : Type 0 where
  pub chronicle : k'.chronicle ≡ k.chronicle ++ entries
  pub calls : k'.ledger ≡ k.ledger ++ map call_of entries
  pub seat : s' ≡ with_entries (length k.chronicle + 1) entries s
  pub rolls : k'.rolls ≡ k.rolls

-- a cycle of steps by one who holds the lock, each an act of the seat and an entry; there are no other entries
abbrev pub RunsCycleHeld : LockState → SeatModel → Result CycleCounts Refusal → LockState → SeatModel
    → Type 0
RunsCycleHeld k s cycle k' s' =
    (steps : List TakenStep) × RunsCycle IsNoEntry k.machine steps cycle k'.machine
    × Gains k s (entries_of_steps s.number steps) k' s'

-- the answer of `collect`, about such a cycle
abbrev pub CollectsHeld : LockState → SeatModel → List ℕ → LockState → SeatModel → Type 0
CollectsHeld k s text k' s' =
    (cycle : Result CycleCounts Refusal) × RunsCycleHeld k s cycle k' s' × IsCycleAnswer cycle text

-- an act of the seat by one who holds the lock, and its reply
abbrev pub ActsHeld : HeapSettings → Action → LockState → SeatModel → List ℕ → LockState → SeatModel
    → Type 0
ActsHeld config a k s text k' s' =
    (done : Result Receipt Refusal) × (r : Reply) × IsHeldAct config a k s done k' s'
    × IsReply done r × (text ≡ reply_text r)

-- nothing is done, for this reason
abbrev pub IsRefusedHeld : Refusal → LockState → SeatModel → List ℕ → LockState → SeatModel → Type 0
IsRefusedHeld e k s text k' s' = (text ≡ refused_text e) × (k' ≡ k) × (s' ≡ s)

-- a rewind of this many steps, as such an act; or a refusal, and nothing is done
abbrev pub RewindsHeld : HeapSettings → Result ℕ Refusal → LockState → SeatModel → List ℕ → LockState
    → SeatModel
    → Type 0
RewindsHeld config (Ok n) k s text k' s' = ActsHeld config (Rewind n) k s text k' s'
RewindsHeld config (Err e) k s text k' s' = IsRefusedHeld e k s text k' s'

-- no steps that were undone are kept of a shared heap, so none of this many is taken again
abbrev pub LacksUndone : ℕ → LockState → SeatModel → List ℕ → LockState → SeatModel → Type 0
LacksUndone n k s text k' s' =
    IsTextOrNoMemory (λ text. text ≡ nothing_to_redo_text n 0) text × (k' ≡ k) × (s' ≡ s)

-- what one who holds the lock does as a line asks, by acts of the seat, and its answer; there may be no memory to read a class
abbrev pub DoesHeld : HeapSettings → Order → LockState → SeatModel → List ℕ → LockState → SeatModel
    → Type 0
DoesHeld config Collect k s text k' s' = CollectsHeld k s text k' s'
DoesHeld config (RewindTo place) k s text k' s' =
    RewindsHeld config (steps_ago (Some place) k.machine.trail) k s text k' s'
DoesHeld config (Forward n) k s text k' s' = LacksUndone n k s text k' s'
DoesHeld config (ForwardTo place) k s text k' s' = IsRefusedHeld NotRetained k s text k' s'
DoesHeld config (Act e) k s text k' s' =
    ActsHeld config (Step e) k s text k' s'
    ⊎ (DefinesClass e × IsRefusedHeld NoMemory k s text k' s')

-- the same of a line that the grammar of sessions doesn't know, in a session with these bookmarks: if it asks for nothing to be
-- done, it changes at most these, and the answer of a question is about the heap's machine and the length of its chronicle
abbrev pub AnswersHeld : HeapSettings → Option Order → List ℕ → LockState → SeatModel → Bookmarks
    → List ℕ
    → LockState → SeatModel → Bookmarks → Type 0
AnswersHeld config (Some order) l k s b text k' s' b' =
    DoesHeld config order k s text k' s' × (b' ≡ b)
AnswersHeld config None l k s b text k' s' b' =
    NotesLine l k.machine (Some (length k.chronicle)) b text b' × (k' ≡ k) × (s' ≡ s)

-- someone who held the lock led to this heap of the seat, all of whose calls are seen
abbrev pub LeavesSeen : HeapSettings → (LockState → Type 0) → SeatModel → List Call → Type 0
LeavesSeen config Leads s seen =
    (last : LockState) × Leads last × IsHeapOfSeat config last.machine last.chronicle last.ledger s
    × (seen ≡ last.ledger)

-- what a line asks to be done, if lines may ask that here
abbrev pub order_obeyed : Bool → Bookmarks → HeapState → List ℕ → Option Order
order_obeyed true b state l = order_in b state l
order_obeyed false b state l = None

-- the answer of a line that the grammar of sessions doesn't know, under one lock, from when the witness had seen all calls so far,
-- to when it has seen all again
pub record AnswersForSeat (config : HeapSettings) (obeys : Bool) (l : List ℕ) (s : SeatModel)
    (seen : List Call) (b : Bookmarks) (text : List ℕ) (s' : SeatModel) (seen' : List Call)
    (b' : Bookmarks)
    : Type 0 where
  pub first : LockState
  pub last : LockState
  pub begins : IsPrefix seen first.ledger
  pub from : IsHeapOfSeat config first.machine first.chronicle first.ledger s
  pub answers : AnswersHeld config (order_obeyed obeys b first.machine.trail.current l) l first s b
      text last s' b'
  pub to : IsHeapOfSeat config last.machine last.chronicle last.ledger s'
  pub sees : seen' ≡ last.ledger
