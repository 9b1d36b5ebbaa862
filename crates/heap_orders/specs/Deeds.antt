-- What the lines do that change the heap, though they are none of the grammar of sessions.
use Rattle.std.specs.Prelude.{◌≡◌, ℕ, ◌-◌, ◌&&◌, nat_le, List, Some, Result, Ok, Err, if◌then◌else◌}
use Rattle.heap_class.specs.declared.Refusal.{Refusal}
use Rattle.heap_class.specs.declared.Refusal.TheVariants.{NotRetained}
use Rattle.heap_trail.specs.declared.Action.{Action}
use Rattle.heap_trail.specs.declared.Action.TheVariants.{Rewind}
use Rattle.heap_trail.specs.declared.Reply.{Reply}
use Rattle.heap_trail.specs.Machine.{Machine}
use Rattle.heap_trail.specs.Trail.{Trail}
use Rattle.session_text.specs.Local.{LocalActs}
use Rattle.session_text.specs.Replies.{reply_text}
use Rattle.heap_orders.specs.declared.cycle.CycleCounts.{CycleCounts}
use Rattle.heap_orders.specs.Collections.{IsCycleAnswer, NoneDenies, RunsCycle, TakenStep}
use Rattle.question_words.specs.Moments.{steps_ago, refused_text}
use Rattle.heap_orders.specs.Redos.{GoesOn, Redo, noted, with_steps}

-- what changes a machine and the steps that can be taken again, and is answered with a text
abbrev pub Deed : Type 1
Deed = Machine → Redo → List ℕ → Machine → Redo → Type 0

-- nothing is done, for this reason
abbrev pub IsRefusedDeed : Refusal → Deed
IsRefusedDeed e m r text m' r' = (text ≡ refused_text e) × (m' ≡ m) × (r' ≡ r)

-- an action, and its reply; it is noted
abbrev pub ActsOnce : Action → Deed
ActsOnce a m r text m' r' =
    (reply : Reply) × LocalActs m a reply m' × (text ≡ reply_text reply)
    × (r' ≡ noted a reply r)

-- `collect` takes steps: those of a whole cycle, or up to one that was refused, whose refusal is the answer
abbrev pub Collects : Deed
Collects m r text m' r' =
    (steps : List TakenStep) × (cycle : Result CycleCounts Refusal)
    × RunsCycle NoneDenies m steps cycle m' × IsCycleAnswer cycle text × (r' ≡ with_steps steps r)

-- a rewind of this many steps, and its reply; or a refusal, and nothing is done
abbrev pub RewindsBy : Result ℕ Refusal → Deed
RewindsBy (Ok n) m r text m' r' = ActsOnce (Rewind n) m r text m' r'
RewindsBy (Err e) m r text m' r' = IsRefusedDeed e m r text m' r'

-- a rewind of as many steps as lead from the state at a place to the current one; or that state isn't retained
abbrev pub RewindsTo : ℕ → Deed
RewindsTo place m r text m' r' = RewindsBy (steps_ago (Some place) m.trail) m r text m' r'

-- how many undone steps lead on to a place, if it is the current one or they do
unfoldable pub steps_on : ℕ → Trail → Redo → Result ℕ Refusal
steps_on place t r =
    if nat_le t.place place && nat_le (place - t.place) r.ahead then Ok (place - t.place)
    else Err NotRetained

-- this many undone steps are taken again; or a refusal, and nothing is done
abbrev pub GoesOnBy : Result ℕ Refusal → Deed
GoesOnBy (Ok n) m r text m' r' = GoesOn n m r text m' r'
GoesOnBy (Err e) m r text m' r' = IsRefusedDeed e m r text m' r'

-- as many undone steps are taken again as lead on to a place; or none do
abbrev pub GoesForwardTo : ℕ → Deed
GoesForwardTo place m r text m' r' = GoesOnBy (steps_on place m.trail r) m r text m' r'
