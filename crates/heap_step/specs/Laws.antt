-- The laws of applying and undoing.
use Rattle.std.specs.Prelude.{◌≡◌, ◌+◌, ◌<◌, ◌≤◌, ◌^◌, ◌⊎◌, ⊤, ℕ, None, Result, Contains, IfOk, OnErr}
use Rattle.heap_class.specs.declared.Refusal.{Refusal}
use Rattle.heap_class.specs.Refusals.{IsAnswered}
use Rattle.heap_region.specs.Limits.{cell_limit, heap_words}
use Rattle.heap_region.specs.Regions.{object_of}
use Rattle.heap_mark.specs.declared.Phase.TheVariants.{Marking}
use Rattle.heap_world.specs.State.{HeapState}
use Rattle.heap_world.specs.Legal.{IsLegal, IsLive, IsMarked, Sheltered}
use Rattle.heap_world.specs.Reach.{IsObject, Names, Reaches}
use Rattle.heap_step.specs.declared.Answer.{Answer}
use Rattle.heap_step.specs.declared.Event.{Event}
use Rattle.heap_step.specs.declared.Event.TheVariants.{Finish, Sweep}
use Rattle.heap_step.specs.declared.Undo.{Undo}
use Rattle.heap_step.specs.declared.Undo.TheVariants.{Finish as Log, Reclaim}
use Rattle.heap_step.specs.Apply.{refusal_of, state_after, answer_of, event_may_grow}
use Rattle.heap_step.specs.Records.{undo_record, undone}

-- an accepted event keeps the heap legal
abbrev pub KeepsLegal : Event → HeapState → Type 0
KeepsLegal e w = IsLegal w → refusal_of e w ≡ None → IsLegal (state_after e w)

-- an accepted event's record undoes it
abbrev pub IsRestored : Event → HeapState → Type 0
IsRestored e w = IsLegal w → refusal_of e w ≡ None → undone (undo_record e w) (state_after e w) ≡ w

-- while a cycle runs, the objects that are marked or sheltered in the first state are so in the second
abbrev pub StaysFound : HeapState → HeapState → Type 0
StaysFound w v =
    w.phase ≡ Marking → v.phase ≡ Marking → (x : ℕ) → (IsMarked w x ⊎ Sheltered w x)
    → (IsMarked v x ⊎ Sheltered v x)

-- while a cycle runs, each object that the registers reach is marked or sheltered
abbrev pub FindsReached : HeapState → Type 0
FindsReached w =
    IsLegal w → w.phase ≡ Marking → (x : ℕ) → Reaches w x → IsMarked w x ⊎ Sheltered w x

-- a sweep leaves each object that the registers reach, its kind and words too
abbrev pub SweepSpares : ℕ → HeapState → Type 0
SweepSpares region w =
    IsLegal w → refusal_of (Sweep region) w ≡ None → (x : ℕ) → Reaches w x
    → object_of (state_after (Sweep region) w).regions x ≡ object_of w.regions x

-- after a finish each object that the registers reach is live
abbrev pub FinishSpares : HeapState → Type 0
FinishSpares w =
    IsLegal w → refusal_of Finish w ≡ None → let v = state_after Finish w in (x : ℕ) → Reaches v x
    → IsLive v x

-- the ids of objects are below 2^32, and so is each register, reference and entry of gray stack and log
pub record IdsFit (w : HeapState) : Type 0 where
  pub objects : (x : ℕ) → IsObject w x → x < 2 ^ 32
  pub registers : (x : ℕ) → Contains w.registers x → x < 2 ^ 32
  pub slots : (x y : ℕ) → IsLive w x → Names w x y → y < 2 ^ 32
  pub gray : (x : ℕ) → Contains w.gray x → x < 2 ^ 32
  pub log : (x : ℕ) → Contains w.log x → x < 2 ^ 32

-- the event was accepted in the legal state `before`, gave the state `after` and left the record
pub record IsStep (e : Event) (before after : HeapState) (left : Undo) : Type 0 where
  pub legal : IsLegal before
  pub accepted : refusal_of e before ≡ None
  pub gave : after ≡ state_after e before
  pub recorded : left ≡ undo_record e before

-- the event in the state `before` had this result: an answer and a record, with the state `after`, or a refusal
pub record IsApplied (e : Event) (before after : HeapState)
    (result : Result (Answer × Undo) Refusal) : Type 0 where
  pub answered : IsAnswered (refusal_of e before) (event_may_grow e before) result
  pub state : IfOk result (λ p. after ≡ state_after e before)
  pub answer : IfOk result (λ p. p.0 ≡ answer_of e before after)
  pub recorded : IfOk result (λ p. p.1 ≡ undo_record e before)
  pub unchanged : OnErr result (after ≡ before)

-- n is at most 2,048, unless the record is that of a Finish, or of a sweep that emptied its regions
abbrev pub IsLight : Undo → ℕ → Type 0
IsLight (Log log) n = ⊤
IsLight (Reclaim region storage) n = n ≤ heap_words + cell_limit
IsLight left n = n ≤ 2048
