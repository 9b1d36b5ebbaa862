-- What holds of a trail.
use Rattle.std.specs.Prelude.{◌≡◌, ℕ, ◌<◌, ◌≤◌, ◌^◌, Bool, true, false, not, ◌&&◌, ◌||◌, ◌==◌, List, [], ◌∷◌, ◌++◌, length, find, Some, if◌then◌else◌}
use Rattle.heap_class.specs.declared.IdSize.{IdSize}
use Rattle.heap_world.specs.Regions.{Object, object_of}
use Rattle.heap_world.specs.MarkSteps.{is_marking}
use Rattle.heap_world.specs.State.{HeapState}
use Rattle.heap_world.specs.Reach.{Reaches}
use Rattle.heap_world.specs.Legal.{IsLegal, IsLive, NamesOne}
use Rattle.heap_step.specs.declared.Event.{Event}
use Rattle.heap_step.specs.declared.Event.TheVariants.{Finish, Sweep}
use Rattle.heap_step.specs.declared.Undo.{Undo}
use Rattle.heap_step.specs.Laws.{IsStep}
use Rattle.heap_step.specs.declared.Answer.{Answer}
use Rattle.hprof_text.specs.declared.Piece.{Piece}
use Rattle.hprof_text.specs.Segments.{dump_text, piece_of}
use Rattle.heap_trail.specs.declared.Action.TheVariants.{Step, Rewind, OpenPin, NextPiece, ClosePin}
use Rattle.heap_trail.specs.declared.Reply.{Reply}
use Rattle.heap_trail.specs.declared.Reply.TheVariants.{Answered, Place, Part}
use Rattle.hprof_text.specs.Image.{Image}
use Rattle.hprof_text.specs.Fits.{HoldsWhole, ShowsWhole}
use Rattle.heap_pins.specs.Images.{image_of}
use Rattle.heap_trail.specs.declared.Action.{Action}
use Rattle.heap_trail.specs.Machine.{Machine, Allocation, acted, acted_under, machine_after, without_dumps}
use Rattle.heap_trail.specs.Pins.{Kept, pin_at}
use Rattle.heap_trail.specs.Trail.{Trail, retained}

-- each state is legal, and came from the one after it in the list by an event that left the record beside that one
abbrev pub AreSteps : HeapState → List HeapState → List Undo → Type 0
AreSteps w [] [] = IsLegal w
AreSteps w (v ∷ vs) (left ∷ records) = ((e : Event) × IsStep e v w left) × AreSteps v vs records
AreSteps w past records = ⊥

-- the retained states and records are those of the steps of one run, and no more than are kept
pub record IsTrail (keep : ℕ) (t : Trail) : Type 0 where
  pub steps : AreSteps t.current t.past t.records
  pub few : retained t ≤ keep
  pub placed : retained t ≤ t.place

-- a step that is answered and a rewind of one after it lead back to the state and the place before
abbrev pub LeadsBack : Machine → Event → Machine → Answer → Type 0
LeadsBack m e n a =
    1 ≤ m.keep → acted m (Step e) ≡ (n, Answered a)
    → ((acted n (Rewind 1)).0.trail.current ≡ m.trail.current)
    × ((acted n (Rewind 1)).1 ≡ Place m.trail.place)

-- what the registers reach in w is in v as it was
abbrev pub SparesReached : HeapState → HeapState → Type 0
SparesReached w v = (x : ℕ) → Reaches w x → object_of v.regions x ≡ object_of w.regions x

-- all that the registers reach is live
abbrev pub ReachesLive : HeapState → Type 0
ReachesLive v = (x : ℕ) → Reaches v x → IsLive v x

-- what the registers reached in the newest of these states in which no cycle ran is in v, with its kind and as many words,
-- and live
abbrev pub FindsSnapshot : List HeapState → HeapState → Type 0
FindsSnapshot past v =
    (w : HeapState) → find (λ u. not (is_marking u.phase)) past ≡ Some w → (x : ℕ) (o : Object)
    → Reaches w x → object_of w.regions x ≡ Some o
    → NamesOne v (λ p. (p.kind ≡ o.kind) × (length p.words ≡ length o.words) × (p.live ≡ true)) x

-- the event led from the trail's current state to v. If it is a sweep, it left what the registers reach as it was; if it is a
-- finish, what they reach is live, and so is what they reached when the cycle began
pub record KeepsReached (e : Event) (t : Trail) (v : HeapState) : Type 0 where
  pub spares : (region : ℕ) → e ≡ Sweep region → SparesReached t.current v
  pub live : e ≡ Finish → ReachesLive v
  pub finds : e ≡ Finish → FindsSnapshot t.past v

-- a legal trail is legal after all actions of the list
abbrev pub KeepsTrail : Machine → List (Action × Allocation) → Type 0
KeepsTrail m actions =
    IsTrail m.keep m.trail → let n = machine_after m actions in IsTrail n.keep n.trail

-- a dump leaves the trail as without it
abbrev pub LeavesTrail : Machine → List (Action × Allocation) → Type 0
LeavesTrail m actions =
    (machine_after m actions).trail ≡ (machine_after m (without_dumps actions)).trail

-- a pin that isn't lost after an action has the image that it had
abbrev pub KeepsImage : Machine → Action × Allocation → ℕ → Type 0
KeepsImage m a pin =
    (p q : ℕ) (i j : Image) (g h : ℕ) → pin_at pin m.pins ≡ Some (Kept p i g)
    → pin_at pin (acted_under m a).0.pins ≡ Some (Kept q j h) → (q ≡ p) × (j ≡ i)

-- each number in the dump of a legal heap is below what the bytes that it has there hold: ids and words too
abbrev pub DumpIsWhole : IdSize → HeapState → ℕ → Type 0
DumpIsWhole ids w time =
    IsLegal w → time < 2 ^ 64 → HoldsWhole ids (image_of w) time × ShowsWhole ids (image_of w)

-- a piece, asked for at this time, of the dump of some legal state
abbrev pub IsPieceOfLegal : IdSize → ℕ → Piece → Type 0
IsPieceOfLegal ids time piece =
    (w : HeapState) × IsLegal w × (given : ℕ) × (piece ≡ piece_of ids (image_of w) time given)

-- ---- what a pin gives in a list of actions

-- the bytes of a piece of the pin, if the action asked for one and got it
unfoldable pub piece_given : ℕ → Action → Reply → List ℕ
piece_given pin (NextPiece n time) (Part p) = if n == pin then p.bytes else []
piece_given pin a r = []

-- and whether it was the last
unfoldable pub last_given : ℕ → Action → Reply → Bool
last_given pin (NextPiece n time) (Part p) = (n == pin) && p.last
last_given pin a r = false

-- the bytes of all pieces of the pin, in order
unfoldable pub bytes_given : ℕ → Machine → List (Action × Allocation) → List ℕ
bytes_given pin m [] = []
bytes_given pin m (a ∷ as') =
    let r = acted_under m a in piece_given pin a.0 r.1 ++ bytes_given pin r.0 as'

-- whether the last was among them
unfoldable pub gave_last : ℕ → Machine → List (Action × Allocation) → Bool
gave_last pin m [] = false
gave_last pin m (a ∷ as') =
    let r = acted_under m a in last_given pin a.0 r.1 || gave_last pin r.0 as'

-- each piece of the pin is asked for with this time
abbrev pub AsksAt : ℕ → ℕ → Action → Type 0
AsksAt pin time (NextPiece n t) = n ≡ pin → t ≡ time
AsksAt pin time (Step e) = Unit {0}
AsksAt pin time (Rewind n) = Unit {0}
AsksAt pin time (OpenPin at) = Unit {0}
AsksAt pin time (ClosePin n) = Unit {0}

-- each action of the list asks for pieces of the pin with this time
abbrev pub AskAt : ℕ → ℕ → List (Action × Allocation) → Type 0
AskAt pin time [] = Unit {0}
AskAt pin time (a ∷ as') = AsksAt pin time a.0 × AskAt pin time as'

-- whatever else is done, the pieces of a pin that gave none yet are a beginning of the text of its image, and all of it once
-- the last was given
abbrev pub GivesText : Machine → List (Action × Allocation) → ℕ → ℕ → Type 0
GivesText m actions pin time =
    (place : ℕ) (image : Image) → pin_at pin m.pins ≡ Some (Kept place image 0) → pin < m.pins.next
    → AskAt pin time actions
    → (rest : List ℕ) × (bytes_given pin m actions ++ rest ≡ dump_text m.ids image time)
    × (gave_last pin m actions ≡ true → rest ≡ [])
