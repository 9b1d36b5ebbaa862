-- Histories: what was asked, in order, each with the answer that it had to get.
use Rattle.std.specs.Prelude.{◌≡◌, ◌≢◌, ℕ, ◌==◌, false, List, [], ◌∷◌, filter}
use Rattle.std.specs.List.{enumerate_from}
use Rattle.heap_class.specs.declared.IdSize.TheVariants.{Eight}
use Rattle.heap_class.specs.declared.Refusal.TheVariants.{NoMemory, ChronicleFull}
use Rattle.heap_trail.specs.HeapLimits.{HeapSettings}
use Rattle.heap_trail.specs.State.{opening_state}
use Rattle.heap_trail.specs.declared.Action.{Action}
use Rattle.heap_trail.specs.declared.Reply.{Reply}
use Rattle.heap_trail.specs.declared.Reply.TheVariants.{Answered, Place, Refused}
use Rattle.heap_trail.specs.Trail.{Trail, opening_trail}
use Rattle.heap_trail.specs.Pins.{no_pins}
use Rattle.heap_trail.specs.Machine.{Machine, MayReply, acted, is_dump_action}
use Rattle.heap_history.specs.declared.entry.Entry.{Entry}
use Rattle.heap_history.specs.declared.entry.Outcome.{Outcome}
use Rattle.heap_history.specs.declared.entry.Outcome.TheVariants.{Answered as Told, Place as At, Refused as Denied}

-- an outcome as a machine replies it
abbrev pub reply_of : Outcome → Reply
reply_of (Told a) = Answered a
reply_of (At p) = Place p
reply_of (Denied r) = Refused r

-- a seat's action and its outcome
abbrev pub entry : ℕ → Action → Outcome → Entry
entry seat action answer = record { seat = seat; action = action; answer = answer }

-- the trail with which a heap of these settings begins
abbrev pub opening : HeapSettings → Trail
opening s = opening_trail (opening_state s.limits s.regions s.mutators)

-- a machine without pins at this trail; the size of ids plays no part in events and rewinds
abbrev pub machine_at : ℕ → Trail → Machine
machine_at keep t = record { keep = keep; ids = Eight; trail = t; pins = no_pins }

-- the trail that an event or a rewind leaves
unfoldable pub trail_after : ℕ → Trail → Action → Trail
trail_after keep t a = (acted (machine_at keep t) a).0.trail

-- and what it is answered
unfoldable pub reply_at : ℕ → Trail → Action → Reply
reply_at keep t a = (acted (machine_at keep t) a).1

-- an act that is refused NoMemory or ChronicleFull is no entry
abbrev pub MayEnter : Reply → Type 0
MayEnter r = (r ≢ Refused NoMemory) × (r ≢ Refused ChronicleFull)

-- a machine goes on so, and this outcome may be an entry
abbrev pub Enters : Machine → Action → Machine → Outcome → Type 0
Enters m a m' o = MayReply m a m' (reply_of o) × MayEnter (reply_of o)

-- an entry that may stand at this trail: an event or a rewind, with the answer due there
pub record IsDue (keep : ℕ) (t : Trail) (e : Entry) : Type 0 where
  pub deed : is_dump_action e.action ≡ false
  pub answer : reply_of e.answer ≡ reply_at keep t e.action
  pub enters : MayEnter (reply_of e.answer)

-- the entries, the oldest first, could follow this trail one after another
abbrev pub IsLegalHistory : ℕ → Trail → List Entry → Type 0
IsLegalHistory keep t [] = Unit {0}
IsLegalHistory keep t (e ∷ es) =
    IsDue keep t e × IsLegalHistory keep (trail_after keep t e.action) es

-- the trail that they leave
unfoldable pub history_trail : ℕ → Trail → List Entry → Trail
history_trail keep t [] = t
history_trail keep t (e ∷ es) = history_trail keep (trail_after keep t e.action) es

-- the entries of a seat, each with its turn, counted from 1
unfoldable pub entries_by : ℕ → List Entry → List (ℕ × Entry)
entries_by seat entries = filter (λ p. p.1.seat == seat) (enumerate_from 1 entries)
