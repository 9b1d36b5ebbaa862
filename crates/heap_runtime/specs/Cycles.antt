-- Cycles, one after another.
use Rattle.std.specs.Prelude.{◌≡◌, ◌≢◌, ℕ, suc, zero, ◌<◌, ◌-◌, ◌^◌, [], ◌∷◌, ◌++◌, Result, IfOk, IfErr}
use Rattle.heap_lock.specs.HeapLimits.{HeapSettings}
use Rattle.heap_lock.specs.Event.TheVariants as Events
use Rattle.heap_lock.specs.Action.TheVariants.{Step}
use Rattle.heap_lock.specs.Receipt.{Receipt}
use Rattle.heap_lock.specs.declared.role.Role.TheVariants.{Marker, Sweeper}
use Rattle.heap_work.specs.declared.MarkEnd.{MarkEnd}
use Rattle.heap_work.specs.declared.MarkEnd.TheVariants.{Finished}
use Rattle.heap_work.specs.declared.SweepEnd.{SweepEnd}
use Rattle.heap_work.specs.declared.SweepEnd.TheVariants.{Swept}
use Rattle.heap_work.specs.Rule.{IsMarkWork, IsSweepWork}
use Rattle.heap_runtime.specs.declared.cycles.Halt.{Halt}
use Rattle.heap_runtime.specs.declared.cycles.Halt.TheVariants.{GaveUp, Denied, Marking, Sweeping}
use Rattle.heap_runtime.specs.Actors.{ActorState, IsActorIdle}

-- n steps, one after another
abbrev pub StepsInTurn : (ActorState → ActorState → Type 0) → ℕ → ActorState → ActorState → Type 0
StepsInTurn Takes zero a a' = a' ≡ a
StepsInTurn Takes (suc n) a a' = (b : ActorState) × StepsInTurn Takes n a b × Takes b a'

-- fewer than n steps, and then a halt
abbrev pub HaltsWithin : (ActorState → ActorState → Type 0)
    → (ActorState → Halt → ActorState → Type 0) → ℕ → ActorState → Halt → ActorState → Type 0
HaltsWithin Takes Stops n a h a' =
    (k : ℕ) × (b : ActorState) × (k < n) × StepsInTurn Takes k a b × Stops b h a'

-- n steps, or a halt within them
abbrev pub TakesTurns : (ActorState → ActorState → Type 0)
    → (ActorState → Halt → ActorState → Type 0) → ℕ → ActorState → Result Unit Halt → ActorState
    → Type 0
TakesTurns Takes Stops n a result a' =
    IfOk result (λ _. StepsInTurn Takes n a a')
    × IfErr result (λ h. HaltsWithin Takes Stops n a h a')

-- the turns of a worker that has no limit
abbrev pub all_turns : ℕ
all_turns = 2 ^ 64 - 1

-- a cycle was marked to its end, which is claimed
abbrev pub MarksCycle : HeapSettings → ActorState → ActorState → Type 0
MarksCycle config a a' =
    (r : Receipt) × IsMarkWork config a.seat a'.seat all_turns (Finished r)
    × (a'.claims ≡ a.claims ++ (Step Events.Finish, r) ∷ [])

-- why a cycle wasn't marked to its end; nothing more is claimed, and no gate stopped it
abbrev pub HaltsMarking : HeapSettings → ActorState → Halt → ActorState → Type 0
HaltsMarking config a GaveUp a' = a' ≡ a
HaltsMarking config a (Denied d) a' = IsActorIdle Marker a d a'
HaltsMarking config a (Marking end) a' =
    IsMarkWork config a.seat a'.seat all_turns end × (a'.claims ≡ a.claims) × (end ≢ MarkEnd.Stopped)
HaltsMarking config a (Sweeping end) a' = ⊥

-- all regions were swept; nothing is claimed
abbrev pub SweepsCycle : HeapSettings → ActorState → ActorState → Type 0
SweepsCycle config a a' =
    IsSweepWork config a.seat a'.seat all_turns Swept × (a'.claims ≡ a.claims)

-- why not all regions were swept; nothing is claimed, and no gate stopped it
abbrev pub HaltsSweeping : HeapSettings → ActorState → Halt → ActorState → Type 0
HaltsSweeping config a GaveUp a' = a' ≡ a
HaltsSweeping config a (Denied d) a' = IsActorIdle Sweeper a d a'
HaltsSweeping config a (Marking end) a' = ⊥
HaltsSweeping config a (Sweeping end) a' =
    IsSweepWork config a.seat a'.seat all_turns end × (a'.claims ≡ a.claims)
    × (end ≢ SweepEnd.Stopped)

-- this number of cycles was marked, or fewer and then it halts
abbrev pub MarksCycles : HeapSettings → ℕ → ActorState → Result Unit Halt → ActorState → Type 0
MarksCycles config = TakesTurns (MarksCycle config) (HaltsMarking config)

-- this number of cycles was swept, or fewer and then it halts
abbrev pub SweepsCycles : HeapSettings → ℕ → ActorState → Result Unit Halt → ActorState → Type 0
SweepsCycles config = TakesTurns (SweepsCycle config) (HaltsSweeping config)
