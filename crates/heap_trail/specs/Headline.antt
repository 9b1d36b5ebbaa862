-- What holds over every list of actions, in one statement.
use Rattle.std.specs.Prelude.{◌≡◌, ℕ, ◌+◌, ◌-◌, ◌<◌, ◌≤◌, Bool, true, false, not, List, ◌∷◌, All, drop, map, filter, zip, slice_get, Option, Some, unwrap_or}
use Rattle.heap_step.specs.declared.Event.{Event}
use Rattle.heap_step.specs.declared.Answer.{Answer}
use Rattle.hprof_text.specs.Image.{Image}
use Rattle.heap_pins.specs.Images.{image_of}
use Rattle.heap_trail.specs.declared.Action.{Action}
use Rattle.heap_trail.specs.declared.Action.TheVariants.{Step, Rewind, OpenPin}
use Rattle.heap_trail.specs.declared.Reply.{Reply}
use Rattle.heap_trail.specs.declared.Reply.TheVariants.{Answered, Place, Pinned}
use Rattle.heap_trail.specs.Trail.{retained, state_ago}
use Rattle.heap_trail.specs.Pins.{Kept, AreNumbered, pin_at}
use Rattle.heap_trail.specs.Machine.{Machine, Allocation, AreAllocations, acted, acted_under, machine_after, replies_of, is_dump_action, without_dumps}
use Rattle.heap_trail.specs.Laws.{GivesText, LeavesTrail}

-- ---- steps and rewinds

-- after a rewind of n: the state of n steps ago is the current one, what was retained before it stays with its records, and the
-- place is n less
pub record IsRewound (n : ℕ) (m : Machine) (r : Machine × Reply) : Type 0 where
  pub state : slice_get (m.trail.current ∷ m.trail.past) n ≡ Some r.0.trail.current
  pub past : r.0.trail.past ≡ drop n m.trail.past
  pub records : r.0.trail.records ≡ drop n m.trail.records
  pub place : r.0.trail.place ≡ m.trail.place - n
  pub reply : r.1 ≡ Place (m.trail.place - n)

-- this machine and this reply are back at the state and the place of m
abbrev pub IsBackAt : Machine → Machine × Reply → Type 0
IsBackAt m r =
    (r.0.trail.current ≡ m.trail.current) × (r.0.trail.place ≡ m.trail.place)
    × (r.1 ≡ Place m.trail.place)

-- a step that is answered, with any allocation, and a rewind of one lead back to the state and the place before
abbrev pub UndoesStep : Machine → Type 0
UndoesStep m = (e : Event) (allocation : Allocation) (n : Machine) (a : Answer)
    → 1 ≤ m.keep → acted_under m (Step e, allocation) ≡ (n, Answered a)
    → IsBackAt m (acted n (Rewind 1))

-- each rewind of n retained steps gives the state of n steps ago
abbrev pub RewindsRetained : Machine → Type 0
RewindsRetained m = (n : ℕ) → n ≤ retained m.trail → IsRewound n m (acted m (Rewind n))

-- to rewind a + b retained steps is to rewind a and then b: the same machine, pins included, and the same reply
abbrev pub RewindsInParts : Machine → Type 0
RewindsInParts m =
    (a b : ℕ) → a + b ≤ retained m.trail
    → acted (acted m (Rewind a)).0 (Rewind b) ≡ acted m (Rewind (a + b))

-- whether the action is a rewind
abbrev pub is_rewind : Action → Bool
is_rewind (Rewind n) = true
is_rewind a = false

-- no action of the list is a rewind
abbrev pub HasNoRewind : List (Action × Allocation) → Type 0
HasNoRewind actions = All (λ a. is_rewind a.0 ≡ false) actions

-- after actions that rewind nothing and lead n places on, at most `keep`, a rewind of n leads back to the state and the place
-- before them
abbrev pub RewindsOver : Machine → List (Action × Allocation) → Type 0
RewindsOver m later = HasNoRewind later → (n : ℕ)
    → n ≤ m.keep → (machine_after m later).trail.place ≡ m.trail.place + n
    → IsBackAt m (acted (machine_after m later) (Rewind n))

-- ---- a list with and without its dumps

-- the replies to the steps and rewinds among these actions, in order
unfoldable pub replies_beside_dumps : Machine → List (Action × Allocation) → List Reply
replies_beside_dumps m actions =
    map (λ p. p.1) (filter (λ p. not (is_dump_action p.0.0)) (zip actions (replies_of m actions)))

-- steps and rewinds are answered as without the dumps, and lead to the same trail; allocations that are possible with
-- them are possible without them
abbrev pub GoesAsWithoutDumps : Machine → List (Action × Allocation) → Type 0
GoesAsWithoutDumps m actions =
    let others = without_dumps actions in
    (replies_beside_dumps m actions ≡ replies_of m others) × LeavesTrail m actions
    × (AreAllocations m actions → AreAllocations m others)

-- ---- pins

-- a pin that is opened, if each has a number below the next, shows the state at the place asked for, and has given nothing
abbrev pub OpensPin : Machine → Type 0
OpensPin m =
    AreNumbered m.pins → (at : Option ℕ) (n : Machine) (pin place : ℕ)
    → acted m (OpenPin at) ≡ (n, Pinned pin place)
    → (place ≡ unwrap_or at m.trail.place) × (pin < n.pins.next)
    × (pin_at pin n.pins
    ≡ Some (Kept place (image_of (state_ago (m.trail.place - place) m.trail)) 0))

-- a pin that was opened before, and isn't lost before the list nor after it, has the place and the image that it had
abbrev pub KeepsPin : Machine → List (Action × Allocation) → ℕ → Type 0
KeepsPin m actions pin = pin < m.pins.next → (p q : ℕ) (i j : Image) (g h : ℕ)
    → pin_at pin m.pins ≡ Some (Kept p i g)
    → pin_at pin (machine_after m actions).pins ≡ Some (Kept q j h) → (q ≡ p) × (j ≡ i)

-- ---- the headline

-- after the list, undoing the last step restores the state before it, rewinding n retained steps gives the state n steps ago,
-- and a pin that is opened shows the state at its place; in the list, steps and rewinds go as without its dumps, and what a pin
-- gives is a beginning of the text of the image that it keeps, all of it once the last piece was given
pub record Headline (m : Machine) (actions : List (Action × Allocation)) : Type 0 where
  pub undone : UndoesStep (machine_after m actions)
  pub rewound : RewindsRetained (machine_after m actions) × RewindsInParts (machine_after m actions)
  pub recalled : (later : List (Action × Allocation)) → RewindsOver (machine_after m actions) later
  pub alike : GoesAsWithoutDumps m actions
  pub pinned : OpensPin (machine_after m actions)
  pub text : (pin time : ℕ) → GivesText m actions pin time
  pub kept : (pin : ℕ) → KeepsPin m actions pin
