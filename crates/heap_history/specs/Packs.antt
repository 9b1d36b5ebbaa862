-- Entries in records of a fixed size.
use Rattle.std.specs.Prelude.{◌≡◌, ℕ, Bool, true, false, List, Option, None, Some, slice_get, if◌then◌else◌}
use Rattle.std.specs.Option.{option_map}
use Rattle.heap_class.specs.declared.Kind.{Kind}
use Rattle.heap_class.specs.declared.Kind.TheVariants.{Object as NoKind}
use Rattle.heap_step.specs.declared.Answer.TheVariants as Answers
use Rattle.heap_step.specs.declared.Event.{Event}
use Rattle.heap_step.specs.declared.Event.TheVariants as Events
use Rattle.heap_trail.specs.declared.Action.{Action}
use Rattle.heap_trail.specs.declared.Action.TheVariants.{Step, Rewind as Undo}
use Rattle.heap_history.specs.declared.entry.Entry.{Entry}
use Rattle.heap_history.specs.declared.entry.Outcome.{Outcome}
use Rattle.heap_history.specs.declared.entry.Outcome.TheVariants.{Answered, Place as At, Refused as Denied}
use Rattle.heap_history.specs.declared.pack.AnswerPack.{AnswerPack}
use Rattle.heap_history.specs.declared.pack.Deed.{Deed}
use Rattle.heap_history.specs.declared.pack.Deed.TheVariants.{New, NewArray, NewPrim, Load, Store, Put, Move, Clear, Snap, Mark, Drain, Finish, Sweep, Rewind}
use Rattle.heap_history.specs.declared.pack.DeedPack.{DeedPack}
use Rattle.heap_history.specs.declared.pack.Form.{Form}
use Rattle.heap_history.specs.declared.pack.Form.TheVariants.{Numbers, Long, Nothing}
use Rattle.heap_history.specs.declared.pack.Pack.{Pack}
use Rattle.heap_history.specs.declared.pack.Told.{Told}
use Rattle.heap_history.specs.declared.pack.Told.TheVariants.{Class, Object, Null, Value, Done, Pushed, Condemned, Swept, Emptied, Place, Refused, RefusedInFull}
use Rattle.heap_history.specs.declared.pack.LongDeed.{LongDeed}
use Rattle.heap_history.specs.declared.pack.LongDeed.TheVariants as LongDeeds
use Rattle.heap_history.specs.declared.pack.LongPack.{LongPack}
use Rattle.heap_history.specs.Definitions.{name_of, fields_of}
use Rattle.heap_history.specs.Details.{refusal_from}
use Rattle.heap_history.specs.History.{entry}

-- the deed of this sort with these numbers
unfoldable pub action_in : Deed → Kind → ℕ → ℕ → ℕ → ℕ → Action
action_in New kind a b c d = Step (Events.New a b c)
action_in NewArray kind a b c d = Step (Events.NewArray a b c d)
action_in NewPrim kind a b c d = Step (Events.NewPrim a b kind c)
action_in Load kind a b c d = Step (Events.Load a b c d)
action_in Store kind a b c d = Step (Events.Store a b c d)
action_in Put kind a b c d = Step (Events.Put a b c d)
action_in Move kind a b c d = Step (Events.Move a b c d)
action_in Clear kind a b c d = Step (Events.Clear a b)
action_in Snap kind a b c d = Step Events.Snap
action_in Mark kind a b c d = Step Events.Mark
action_in Drain kind a b c d = Step Events.Drain
action_in Finish kind a b c d = Step Events.Finish
action_in Sweep kind a b c d = Step (Events.Sweep a)
action_in Rewind kind a b c d = Undo a

-- the answer of this sort with these numbers
unfoldable pub outcome_in : Told → ℕ → ℕ → ℕ → Outcome
outcome_in Class why n m = Answered (Answers.Class n)
outcome_in Object why n m = Answered (Answers.Object n)
outcome_in Null why n m = Answered Answers.Null
outcome_in Value why n m = Answered (Answers.Value n)
outcome_in Done why n m = Answered Answers.Done
outcome_in Pushed why n m = Answered (Answers.Pushed n)
outcome_in Condemned why n m = Answered (Answers.Condemned n)
outcome_in Swept why n m = Answered (Answers.Swept false n)
outcome_in Emptied why n m = Answered (Answers.Swept true n)
outcome_in Place why n m = At n
outcome_in Refused why n m = Denied (refusal_from why n 0)
outcome_in RefusedInFull why n m = Denied (refusal_from why n m)

-- the answers with a second number
abbrev pub has_second : Told → Bool
has_second RefusedInFull = true
has_second t = false

-- the deed's fourth number, by the number in the place that it shares with the answer's second one
abbrev pub fourth_beside : Told → ℕ → ℕ
fourth_beside told shared = if has_second told then 0 else shared

-- the deed with this fourth number
abbrev pub action_with : DeedPack → ℕ → Action
action_with d fourth = action_in d.deed d.kind d.first d.second d.third fourth

-- the action of a deed, with its own last number
abbrev pub action_by : DeedPack → Action
action_by d = action_with d d.fourth

-- the deed of this sort with these numbers and no kind
abbrev pub numbered : Deed → ℕ → ℕ → ℕ → ℕ → DeedPack
numbered deed a b c d =
    record { deed = deed; kind = NoKind; first = a; second = b; third = c; fourth = d }

-- the numbers of an event, unless it has lists
abbrev pub event_pack : Event → Option DeedPack
event_pack (Events.Class name sup fields) = None
event_pack (Events.ArrayClass name) = None
event_pack (Events.New m r class) = Some (numbered New m r class 0)
event_pack (Events.NewArray m r class len) = Some (numbered NewArray m r class len)
event_pack (Events.NewPrim m r kind len) =
    Some (record { deed = NewPrim; kind = kind; first = m; second = r; third = len; fourth = 0 })
event_pack (Events.Load m to from slot) = Some (numbered Load m to from slot)
event_pack (Events.Store m target slot source) = Some (numbered Store m target slot source)
event_pack (Events.Put m target slot value) = Some (numbered Put m target slot value)
event_pack (Events.Move m to from_m from) = Some (numbered Move m to from_m from)
event_pack (Events.Clear m r) = Some (numbered Clear m r 0 0)
event_pack Events.Snap = Some (numbered Snap 0 0 0 0)
event_pack Events.Mark = Some (numbered Mark 0 0 0 0)
event_pack Events.Drain = Some (numbered Drain 0 0 0 0)
event_pack Events.Finish = Some (numbered Finish 0 0 0 0)
event_pack (Events.Sweep region) = Some (numbered Sweep region 0 0 0)

-- the answer with this second number
abbrev pub outcome_with : AnswerPack → ℕ → Outcome
outcome_with a second = outcome_in a.told a.reason a.first second

-- the outcome of an answer, with its own second number
abbrev pub outcome_by : AnswerPack → Outcome
outcome_by a = outcome_with a a.second

-- the entry that a pack tells by its numbers
unfoldable pub entry_by : Pack → Entry
entry_by p =
    entry p.seat
    (action_in p.deed p.kind p.first p.second p.third (fourth_beside p.told p.fourth))
    (outcome_in p.told p.reason p.told_first p.fourth)

-- the pack tells this entry by its numbers
abbrev pub TellsEntry : Pack → Entry → Type 0
TellsEntry p e = (p.form ≡ Numbers) × (entry_by p ≡ e)

-- the action of a long deed
unfoldable pub long_action : LongDeed → Action
long_action (LongDeeds.Numbers d) = action_by d
long_action (LongDeeds.Class sup d) = Step (Events.Class (name_of d) sup (fields_of d))
long_action (LongDeeds.ArrayClass d) = Step (Events.ArrayClass (name_of d))

-- the entry that a long pack tells
unfoldable pub long_entry : LongPack → Entry
long_entry w = entry w.seat (long_action w.deed) (outcome_by w.answer)

-- the entry of a pack of this form, if there is one
abbrev pub entry_as : Form → List LongPack → Pack → Option Entry
entry_as Numbers longs p = Some (entry_by p)
entry_as Long longs p = option_map long_entry (slice_get longs p.first)
entry_as Nothing longs p = None

-- the entry that a pack tells by its numbers or by its place among long ones, if it is kept
unfoldable pub entry_in : List LongPack → Pack → Option Entry
entry_in longs p = entry_as p.form longs p
