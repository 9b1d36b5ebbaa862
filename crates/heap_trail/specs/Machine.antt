-- The machine, and what it replies to a list of actions.
use Rattle.std.specs.Prelude.{◌≡◌, ◌⊎◌, ◌≤◌, ℕ, Bool, true, false, not, nat_lt, nat_le, List, [], ◌∷◌, length, map, filter, Option, Some, None, unwrap_or, Result, Ok, Err, ⊤}
use Rattle.heap_class.specs.declared.IdSize.{IdSize}
use Rattle.heap_class.specs.declared.Refusal.{Refusal}
use Rattle.heap_class.specs.declared.Refusal.TheVariants.{NoMemory, ChronicleFull, NoPin, Lost}
use Rattle.heap_world.specs.declared.Limits.{Limits}
use Rattle.heap_world.specs.State.{HeapState, opening_state}
use Rattle.heap_step.specs.declared.Event.{Event}
use Rattle.heap_step.specs.declared.Event.TheVariants.{Store, Put, Sweep}
use Rattle.heap_step.specs.declared.Answer.{Answer}
use Rattle.heap_step.specs.Apply.{applied, event_may_grow}
use Rattle.heap_step.specs.Records.{undo_record}
use Rattle.hprof_text.specs.Laws.{piece_size_limit}
use Rattle.hprof_text.specs.Segments.{pieces_of, piece_of}
use Rattle.heap_trail.specs.declared.Action.{Action}
use Rattle.heap_trail.specs.declared.Action.TheVariants.{Step, Rewind, OpenPin, NextPiece, ClosePin}
use Rattle.heap_trail.specs.declared.Reply.{Reply}
use Rattle.heap_trail.specs.declared.Reply.TheVariants.{Answered, Place, Pinned, Part, Closed, Refused}
use Rattle.heap_trail.specs.Limits.{last_place}
use Rattle.heap_trail.specs.Trail.{Trail, opening_trail, stepped, rewind_refusal, rewound}
use Rattle.heap_trail.specs.Pins.{Pins, PinState, Kept, Gone, no_pins, pin_at, open_refusal, with_pin, without_pin, with_piece_given, after_rewind, with_lost}

-- the largest number of steps that can be undone and the size of ids in dumps, both fixed for a machine; the trail and the
-- pins
pub record Machine : Type 0 where
  pub keep : ℕ
  pub ids : IdSize
  pub trail : Trail
  pub pins : Pins

-- a machine at place 0, with no object and no pin
unfoldable pub opening_machine : Limits → IdSize → ℕ → ℕ → ℕ → Machine
opening_machine limits ids regions mutators keep =
    record {
      keep = keep;
      ids = ids;
      trail = opening_trail (opening_state limits regions mutators);
      pins = no_pins;
    }

-- ---- one action

-- the machine after an event's result, and the reply
unfoldable pub after_result : Event → Machine → Result (HeapState × Answer) Refusal
    → Machine × Reply
after_result e m (Ok r) =
    let left = undo_record e m.trail.current in
    (record m { trail = stepped m.keep left r.0 m.trail }, Answered r.1)
after_result e m (Err r) = (m, Refused r)

-- the machine after a step, and the reply; the step is refused if it is at the last place
unfoldable pub after_step_at : Bool → Event → Machine → Machine × Reply
after_step_at true e m = (m, Refused ChronicleFull)
after_step_at false e m = after_result e m (applied e m.trail.current)

-- the refusal with no change, if there is one, and else what f makes of the machine
unfoldable pub unless : Option Refusal → (Machine → Machine × Reply) → Machine → Machine × Reply
unless None f m = f m
unless (Some r) f m = (m, Refused r)

-- the machine after a rewind of n retained steps, and the reply
unfoldable pub after_rewind_by : ℕ → Machine → Machine × Reply
after_rewind_by n m =
    let t = rewound n m.trail in
    (record m { trail = t; pins = after_rewind t.place m.pins }, Place t.place)

-- the machine after a pin is opened on the state at this place, and the reply
unfoldable pub after_open : ℕ → Machine → Machine × Reply
after_open at m = (record m { pins = with_pin at m.trail m.pins }, Pinned m.pins.next at)

-- the machine after a piece, which is counted unless it is past the last
unfoldable pub counted : Bool → ℕ → Machine → Machine
counted true pin m = record m { pins = with_piece_given pin m.pins }
counted false pin m = m

-- the next piece of a pin
unfoldable pub after_piece : ℕ → ℕ → Machine → Option PinState → Machine × Reply
after_piece pin time m None = (m, Refused NoPin)
after_piece pin time m (Some (Gone place cause)) = (m, Refused (Lost cause))
after_piece pin time m (Some (Kept place image given)) = (
  counted (nat_lt given (length (pieces_of m.ids image time))) pin m,
  Part (piece_of m.ids image time given),
)

-- the machine after the pin is closed, and the reply
unfoldable pub after_close : ℕ → Machine → Option PinState → Machine × Reply
after_close pin m None = (m, Refused NoPin)
after_close pin m (Some s) = (record m { pins = without_pin pin m.pins }, Closed)

-- the machine after an action that gets its memory, and the reply
unfoldable pub acted : Machine → Action → Machine × Reply
acted m (Step e) = after_step_at (nat_le last_place m.trail.place) e m
acted m (Rewind n) = unless (rewind_refusal n m.trail) (after_rewind_by n) m
acted m (OpenPin at) =
    let place = unwrap_or at m.trail.place in
    unless (open_refusal place m.trail m.pins) (after_open place) m
acted m (NextPiece pin time) = after_piece pin time m (pin_at pin m.pins)
acted m (ClosePin pin) = after_close pin m (pin_at pin m.pins)

-- ---- allocations: which actions got their memory

-- an action got its memory; it got none and was refused; or the step lost the named pins for lack of memory
pub data Allocation : Type 0 where
  Granted : Allocation
  Denied : Allocation
  LosesPins : List ℕ → Allocation

-- the machine after an action with this allocation, and the reply
unfoldable pub acted_under : Machine → Action × Allocation → Machine × Reply
acted_under m (a, Granted) = acted m a
acted_under m (a, Denied) = (m, Refused NoMemory)
acted_under m (a, LosesPins pins) =
    let r = acted m a in (record r.0 { pins = with_lost pins r.0.pins }, r.1)

-- the machine after all actions of a list
unfoldable pub machine_after : Machine → List (Action × Allocation) → Machine
machine_after m [] = m
machine_after m (a ∷ as') = machine_after (acted_under m a).0 as'

-- the replies to the actions of a list, in order
unfoldable pub replies_of : Machine → List (Action × Allocation) → List Reply
replies_of m [] = []
replies_of m (a ∷ as') = let r = acted_under m a in r.1 ∷ replies_of r.0 as'

-- ---- which allocations are possible for an action

-- whether the action may allocate, and so be refused NoMemory
unfoldable pub may_grow : Action → Machine → Bool
may_grow (Step e) m = event_may_grow e m.trail.current
may_grow (Rewind n) m = false
may_grow (OpenPin at) m = true
may_grow (NextPiece pin time) m = true
may_grow (ClosePin pin) m = false

-- whether the action may overwrite a word that a pin shows
unfoldable pub may_overwrite : Action → Bool
may_overwrite (Step (Put m target slot value)) = true
may_overwrite (Step (Store m target slot source)) = true
may_overwrite (Step (Sweep region)) = true
may_overwrite a = false

-- whether the reply is no refusal
unfoldable pub is_accepted : Reply → Bool
is_accepted (Refused r) = false
is_accepted r = true

-- the allocation is possible for the action: a refusal only for one that may allocate and isn't refused anyway, and a loss of
-- pins only for one that may overwrite
abbrev pub MayStand : Machine → Action × Allocation → Type 0
MayStand m (a, Granted) = ⊤
MayStand m (a, Denied) = (may_grow a m ≡ true) × (is_accepted (acted m a).1 ≡ true)
MayStand m (a, LosesPins pins) = (may_overwrite a ≡ true) × (is_accepted (acted m a).1 ≡ true)

-- each allocation is possible for its action
abbrev pub AreAllocations : Machine → List (Action × Allocation) → Type 0
AreAllocations m [] = ⊤
AreAllocations m (a ∷ as') = MayStand m a × AreAllocations (acted_under m a).0 as'

-- ---- what a call may answer

-- the action may leave n and give this reply, with an allocation that is possible for it
abbrev pub MayReply : Machine → Action → Machine → Reply → Type 0
MayReply m a n r =
    (allocation : Allocation) × MayStand m (a, allocation)
    × (acted_under m (a, allocation) ≡ (n, r))

-- the action may leave n and be refused with r, also for lack of memory
abbrev pub MayFail : Machine → Action → Machine → Refusal → Type 0
MayFail m a n r = (acted m a ≡ (n, Refused r)) ⊎ (MayStand m (a, Denied) × (r ≡ NoMemory))

-- with some allocations these actions lead from m to n, with these replies
abbrev pub MayDrive : Machine → List Action → List Reply → Machine → Type 0
MayDrive m actions replies n =
    (paired : List (Action × Allocation)) × (map (λ a. a.0) paired ≡ actions)
    × AreAllocations m paired
    × (replies ≡ replies_of m paired) × (n ≡ machine_after m paired)

-- a piece has at most `piece_size_limit` bytes
abbrev pub IsSmall : Reply → Type 0
IsSmall (Answered a) = ⊤
IsSmall (Place place) = ⊤
IsSmall (Pinned pin at) = ⊤
IsSmall (Part piece) = length piece.bytes ≤ piece_size_limit
IsSmall Closed = ⊤
IsSmall (Refused r) = ⊤

-- ---- without the dumper

-- whether the action opens, reads or closes a pin
abbrev pub is_dump_action : Action → Bool
is_dump_action (Step e) = false
is_dump_action (Rewind n) = false
is_dump_action a = true

-- the actions of the list that aren't dump actions
unfoldable pub without_dumps : List (Action × Allocation) → List (Action × Allocation)
without_dumps actions = filter (λ a. not (is_dump_action a.0)) actions

-- ---- the list in which each action gets its memory

-- the actions, each with its allocation granted
unfoldable pub all_granted : List Action → List (Action × Allocation)
all_granted actions = map (λ a. (a, Granted)) actions
