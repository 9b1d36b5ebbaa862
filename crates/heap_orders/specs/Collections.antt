-- The steps of `collect`, and its answer.
use Rattle.std.specs.Prelude.{◌≡◌, ◌⊎◌, ◌≤◌, ◌<◌, ℕ, ◌+◌, ◌*◌, Bool, true, false, not, ◌||◌, nat_lt, Result, Ok, Err, Option, Some, None, List, [], ◌∷◌, ◌++◌, codes, drop, length, slice_get, sum_by, if◌then◌else◌}
use Rattle.std.specs.Option.{option_map_or}
use Rattle.heap_class.specs.declared.Refusal.{Refusal}
use Rattle.heap_class.specs.declared.Refusal.TheVariants.{NoMemory, ChronicleFull}
use Rattle.heap_mark.specs.MarkSteps.{is_marking, pending_regions}
use Rattle.heap_mark.specs.declared.Phase.TheVariants.{Idle}
use Rattle.heap_step.specs.declared.Answer.{Answer}
use Rattle.heap_step.specs.declared.Answer.TheVariants.{Condemned, Swept}
use Rattle.heap_step.specs.declared.Event.{Event}
use Rattle.heap_step.specs.declared.Event.TheVariants.{Snap, Mark, Drain, Finish, Sweep}
use Rattle.heap_trail.specs.declared.Action.TheVariants.{Step}
use Rattle.heap_trail.specs.declared.Reply.TheVariants.{Answered}
use Rattle.heap_trail.specs.Limits.{last_place}
use Rattle.heap_trail.specs.Machine.{Machine, MayFail, MayReply}
use Rattle.heap_world.specs.RegionLimits.{cell_limit, region_limit}
use Rattle.heap_world.specs.State.{HeapState}
use Rattle.session_text.specs.Replies.{and_number, line}
use Rattle.heap_orders.specs.declared.cycle.CycleCounts.{CycleCounts}
use Rattle.question_words.specs.Moments.{refused_text}
use Rattle.question_words.specs.Places.{IsTextOrNoMemory}

-- ---- the next step

-- the lowest region that waits to be swept
abbrev pub waiting_region : HeapState → Option ℕ
waiting_region w = slice_get (pending_regions w.regions) 0

-- the marker's next step: it begins a cycle unless one runs, marks while an object is gray, drains the rest of the log, and
-- then finishes
unfoldable pub next_mark : HeapState → Event
next_mark w =
    if not (is_marking w.phase) then Snap
    else (if nat_lt 0 (length w.gray) then Mark
    else (if nat_lt w.drained (length w.log) then Drain else Finish))

-- the next step of `collect`, which may have taken its finish: a sweep of the lowest region that waits, else a step of the
-- marker; None if no region waits after the finish
unfoldable pub next_step : Bool → HeapState → Option Event
next_step finished w =
    option_map_or (λ r. Some (Sweep r)) (waiting_region w)
    (if finished then None else Some (next_mark w))

-- the event ends a cycle
abbrev pub ends_cycle : Event → Bool
ends_cycle Finish = true
ends_cycle e = false

-- ---- lists of steps

-- a step that was taken, and its answer
abbrev pub TakenStep : Type 0
TakenStep = Event × Answer

-- from m on, each of these steps is the next one and has this answer, and they lead to n; the finish was taken before if b holds,
-- and by then if c does
abbrev pub AreNext : Bool → Machine → List TakenStep → Bool → Machine → Type 0
AreNext b m [] c n = (c ≡ b) × (n ≡ m)
AreNext b m (s ∷ steps) c n =
    (next_step b m.trail.current ≡ Some s.0)
    × ((k : Machine) × MayReply m (Step s.0) k (Answered s.1)
    × AreNext (ends_cycle s.0 || b) k steps c n)

-- whatever led to one moment, these steps more lead to the next
abbrev pub LeadOn : {H B : Type 0} → (H → B → List TakenStep → Type 0) → List TakenStep
    → (H → B → List TakenStep → Type 0) → Type 0
LeadOn {H} {B} Led steps Leads =
    (h : H) (b : B) (before : List TakenStep) → Led h b before → Leads h b (before ++ steps)

-- steps of which this holds lead on so, and no others
abbrev pub AreTaken : {H B : Type 0} → (H → B → List TakenStep → Type 0)
    → (List TakenStep → Type 0) → (H → B → List TakenStep → Type 0) → Type 0
AreTaken Led Are Leads = (steps : List TakenStep) × Are steps × LeadOn Led steps Leads

-- nothing but the machine refuses a step
abbrev pub NoneDenies : Refusal → Type 0
NoneDenies e = ⊥

-- memory was refused, or no place is left
abbrev pub IsShortage : Refusal → Type 0
IsShortage e = (e ≡ NoMemory) ⊎ (e ≡ ChronicleFull)

-- the next step is refused for a shortage, or whoever takes it is denied it
abbrev pub MayStop : (Refusal → Type 0) → Bool → Machine → Refusal → Type 0
MayStop Denies b m e =
    (event : Event) × (next_step b m.trail.current ≡ Some event)
    × ((MayFail m (Step event) m e × IsShortage e) ⊎ Denies e)

-- these steps, each the next one, lead from m to n, where another is refused
abbrev pub StopsAt : (Refusal → Type 0) → Bool → Machine → List TakenStep → Refusal → Machine → Type 0
StopsAt Denies b m steps e n = (c : Bool) × AreNext b m steps c n × MayStop Denies c n e

-- ---- what was collected

-- the number of objects that an answer says were removed
abbrev pub swept_of : Answer → ℕ
swept_of (Swept emptied dead) = dead
swept_of a = 0

-- the number of objects that an answer says were condemned
abbrev pub condemned_of : Answer → ℕ
condemned_of (Condemned n) = n
condemned_of a = 0

-- these steps, each the next one, lead from m to n, and condemn and remove these numbers of objects
abbrev pub StepsLead : Bool → Machine → List TakenStep → Bool → Machine → ℕ → ℕ → Type 0
StepsLead b m steps c n condemned swept =
    AreNext b m steps c n
    × (condemned ≡ sum_by (λ (s : TakenStep). condemned_of s.1) steps)
    × (swept ≡ sum_by (λ (s : TakenStep). swept_of s.1) steps)

-- these steps, a sweep of the lowest region that waits, lead from m to n, and remove this number of objects
pub record IsSwept (m : Machine) (steps : List TakenStep) (count : ℕ) (n : Machine) : Type 0 where
  pub step : (b : Bool) → StepsLead b m steps b n 0 count
  pub few : count ≤ cell_limit
  pub waiting : pending_regions n.trail.current.regions
      ≡ drop 1 (pending_regions m.trail.current.regions)
  pub phase : n.trail.current.phase ≡ m.trail.current.phase

-- these sweeps lead from m to n, where no region waits, and remove this number of objects
pub record AreSwept (m : Machine) (steps : List TakenStep) (count : ℕ) (n : Machine) : Type 0 where
  pub lead : (b : Bool) → StepsLead b m steps b n 0 count
  pub few : count ≤ region_limit * cell_limit
  pub none : pending_regions n.trail.current.regions ≡ []
  pub phase : n.trail.current.phase ≡ m.trail.current.phase

-- the marker's next step leads from m to n; if it is the finish, it condemns this number of objects
abbrev pub MovesOn : Machine → List TakenStep → Option ℕ → Machine → Type 0
MovesOn m steps None n =
    StepsLead false m steps false n 0 0 × (pending_regions n.trail.current.regions ≡ [])
    × (m.trail.place < last_place) × (n.trail.place ≡ m.trail.place + 1)
MovesOn m steps (Some condemned) n =
    StepsLead false m steps true n condemned 0 × (n.trail.current.phase ≡ Idle)

-- these steps of the marker, of which the finish is the last, lead from m to n, and condemn this number of objects
abbrev pub MarksLead : Machine → List TakenStep → ℕ → Machine → Type 0
MarksLead m steps condemned n =
    StepsLead false m steps true n condemned 0 × (n.trail.current.phase ≡ Idle)

-- no cycle runs, and no region waits to be swept
abbrev pub IsCollected : HeapState → Type 0
IsCollected w = (w.phase ≡ Idle) × (pending_regions w.regions ≡ [])

-- these steps, a whole cycle, lead from m to n, and condemn and remove these numbers of objects
abbrev pub IsWholeCycle : Machine → List TakenStep → ℕ → ℕ → Machine → Type 0
IsWholeCycle m steps condemned swept n =
    StepsLead false m steps true n condemned swept × IsCollected n.trail.current

-- ---- the answer

-- the line of a whole cycle
abbrev pub collected_text : ℕ → ℕ → List ℕ
collected_text condemned swept =
    ((codes "ok condemned" ++ and_number condemned) ++ codes " swept") ++ line (and_number swept)

-- the answer about a cycle that ended so: its line, if memory for that wasn't refused; or the refusal of a step
abbrev pub IsCycleAnswer : Result CycleCounts Refusal → List ℕ → Type 0
IsCycleAnswer (Ok c) text =
    IsTextOrNoMemory (λ text. text ≡ collected_text c.condemned c.swept) text
IsCycleAnswer (Err e) text = text ≡ refused_text e

-- these steps of a cycle led from m to n: all of them, or those up to one that was refused
abbrev pub RunsCycle : (Refusal → Type 0) → Machine → List TakenStep → Result CycleCounts Refusal
    → Machine → Type 0
RunsCycle Denies m steps (Ok c) n = IsWholeCycle m steps c.condemned c.swept n
RunsCycle Denies m steps (Err e) n = StopsAt Denies false m steps e n
