-- The steps that rewinds undid, which can be taken again.
use Rattle.std.specs.Prelude.{◌≡◌, ◌⊎◌, ⊤, ℕ, zero, suc, ◌+◌, ◌-◌, ◌≤◌, ◌<◌, nat_le, List, [], ◌∷◌, ◌++◌, codes, drop, length, take, slice_get, Option, Some, None, if◌then◌else◌}
use Rattle.heap_class.specs.declared.Refusal.{Refusal}
use Rattle.heap_world.specs.State.{HeapState}
use Rattle.heap_step.specs.declared.Answer.{Answer}
use Rattle.heap_step.specs.declared.Event.{Event}
use Rattle.heap_step.specs.declared.Undo.{Undo}
use Rattle.heap_step.specs.Laws.{IsStep}
use Rattle.heap_trail.specs.declared.Action.{Action}
use Rattle.heap_trail.specs.declared.Action.TheVariants.{Step, Rewind}
use Rattle.heap_trail.specs.declared.Reply.{Reply}
use Rattle.heap_trail.specs.declared.Reply.TheVariants.{Answered, Place}
use Rattle.heap_trail.specs.Laws.{IsTrail}
use Rattle.heap_trail.specs.Limits.{last_place}
use Rattle.heap_trail.specs.Machine.{Machine, MayFail, MayReply}
use Rattle.heap_trail.specs.Trail.{Trail, rewound}
use Rattle.session_text.specs.Replies.{and_number, line, reply_text}
use Rattle.heap_orders.specs.Collections.{TakenStep}
use Rattle.question_words.specs.Moments.{refused_text}
use Rattle.question_words.specs.Places.{IsTextOrNoMemory}

-- the events of the newest steps, newest first, of which the first `ahead` are undone; and how many are kept at most
pub record Redo : Type 0 where
  pub events : List Event
  pub ahead : ℕ
  pub limit : ℕ

-- the largest number of events that are kept
abbrev pub redo_limit : ℕ
redo_limit = 65536

-- no event
abbrev pub no_redo : ℕ → Redo
no_redo limit = record { events = []; ahead = 0; limit = limit }

-- ---- what an action makes of them

-- a step that was taken: the undone ones are forgotten, and the oldest beyond the limit
abbrev pub with_step : Event → Redo → Redo
with_step e r = record r { events = take r.limit (e ∷ drop r.ahead r.events); ahead = 0 }

-- the same for each of these steps
abbrev pub with_steps : List TakenStep → Redo → Redo
with_steps [] r = r
with_steps (s ∷ steps) r = with_steps steps (with_step s.0 r)

-- n steps more are undone; all events are forgotten if one of them isn't there
abbrev pub with_undone : ℕ → Redo → Redo
with_undone n r =
    if nat_le (r.ahead + n) (length r.events) then record r { ahead = r.ahead + n }
    else no_redo r.limit

-- an action with this reply
abbrev pub noted : Action → Reply → Redo → Redo
noted (Step e) (Answered a) r = with_step e r
noted (Rewind n) (Place p) r = with_undone n r
noted a reply r = r

-- ---- steps that are taken again

-- the event of the step that was undone last, if one is
abbrev pub event_at : ℕ → List Event → Option Event
event_at zero events = None
event_at (suc n) events = slice_get events n

-- the same
abbrev pub next_undone : Redo → Option Event
next_undone r = event_at r.ahead r.events

-- it is taken again
abbrev pub retaken : Redo → Redo
retaken r = record r { ahead = r.ahead - 1 }

-- n of the undone steps, each the one that was undone last, lead from m to m'
abbrev pub TakesAgain : ℕ → Machine → Redo → Machine → Redo → Type 0
TakesAgain zero m r m' r' = (m' ≡ m) × (r' ≡ r)
TakesAgain (suc n) m r m' r' =
    (e : Event) × (a : Answer) × (k : Machine) × (next_undone r ≡ Some e)
    × MayReply m (Step e) k (Answered a) × TakesAgain n k (retaken r) m' r'

-- the step that was undone last is refused
abbrev pub IsStopped : Machine → Redo → Refusal → Type 0
IsStopped m r e = (x : Event) × (next_undone r ≡ Some x) × MayFail m (Step x) m e

-- the line of a `forward` of more steps than are undone
abbrev pub nothing_to_redo_text : ℕ → ℕ → List ℕ
nothing_to_redo_text asked left =
    (codes "no 29 NothingToRedo" ++ and_number asked) ++ line (and_number left)

-- fewer than n of them are taken again, and the next is refused
abbrev pub StopsBefore : ℕ → Machine → Redo → Refusal → Machine → Redo → Type 0
StopsBefore n m r e m' r' =
    (count : ℕ) × (count < n) × TakesAgain count m r m' r' × IsStopped m' r' e

-- n undone steps are taken again, or those up to one that is refused, whose refusal is the answer
abbrev pub GoesOn : ℕ → Machine → Redo → List ℕ → Machine → Redo → Type 0
GoesOn n m r text m' r' =
    (TakesAgain n m r m' r' × (text ≡ reply_text (Place m'.trail.place)))
    ⊎ ((e : Refusal) × StopsBefore n m r e m' r' × (text ≡ refused_text e))

-- the same, or fewer than n are undone, and nothing is done
abbrev pub GoesForward : ℕ → Machine → Redo → List ℕ → Machine → Redo → Type 0
GoesForward n m r text m' r' =
    ((n ≤ r.ahead) × GoesOn n m r text m' r')
    ⊎ ((r.ahead < n) × IsTextOrNoMemory (λ text. text ≡ nothing_to_redo_text n r.ahead) text
    × (m' ≡ m) × (r' ≡ r))

-- ---- which steps they are

-- these events, newest first, led to the state w from the states before it, and left their records
abbrev pub AreLastEvents : List Event → HeapState → List HeapState → List Undo → Type 0
AreLastEvents [] w past records = ⊤
AreLastEvents (e ∷ events) w (v ∷ past) (left ∷ records) =
    IsStep e v w left × AreLastEvents events v past records
AreLastEvents (e ∷ events) w past records = ⊥

-- the undone steps lead from a machine on to this trail, of which the events are the last
pub record LeadsTo (m : Machine) (r : Redo) (last : Trail) : Type 0 where
  pub legal : IsTrail m.keep last
  pub placed : last.place ≤ last_place
  pub events : AreLastEvents r.events last.current last.past last.records
  pub undone : m.trail ≡ rewound r.ahead last
  pub few : r.ahead ≤ length r.events
  pub kept : r.limit ≤ m.keep

-- the undone steps lead from a machine on to some trail
abbrev pub IsRedoOf : Machine → Redo → Type 0
IsRedoOf m r = (last : Trail) × LeadsTo m r last

-- a machine and its undone steps are as they were, and the answer is the place there
abbrev pub IsBackAt : Machine → Redo → List ℕ → Machine → Redo → Type 0
IsBackAt m r text m' r' =
    (m'.trail ≡ m.trail) × (r' ≡ r) × (text ≡ reply_text (Place m.trail.place))
