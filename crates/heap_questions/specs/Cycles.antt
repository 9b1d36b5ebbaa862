-- The cycles that retained steps ended: how many objects each condemned, and how many of them were removed since.
use Rattle.std.specs.Prelude.{◌≡◌, ◌⊎◌, ℕ, zero, suc, ◌+◌, ◌-◌, ◌*◌, ◌<◌, ◌≤◌, ◌&&◌, not, List, [], ◌∷◌, length, count_by, Option, Some, None}
use Rattle.heap_region.specs.Limits.{cell_limit, region_limit}
use Rattle.heap_region.specs.Live.{is_dead, is_live}
use Rattle.heap_region.specs.Regions.{object_at, objects_in}
use Rattle.heap_world.specs.Phase.TheVariants.{Idle, Marking}
use Rattle.heap_world.specs.State.{HeapState}
use Rattle.heap_step.specs.declared.Undo.{Undo}
use Rattle.heap_step.specs.declared.Undo.TheVariants.{Finish, Sweep, Reclaim}
use Rattle.heap_trail.specs.Trail.{Trail, state_ago}
use Rattle.heap_questions.specs.declared.past.cycles.EndedCycle.{EndedCycle}

-- how many objects are dead in the state w and were live in the state v
unfoldable pub condemned_since : HeapState → HeapState → ℕ
condemned_since v w =
    count_by (λ p. not p.1.live && is_live (object_at v.regions p.0)) (objects_in w.regions)

-- how many objects are dead in the state w and aren't there, dead, in the state v
unfoldable pub removed_until : HeapState → HeapState → ℕ
removed_until v w =
    count_by (λ p. not p.1.live && not (is_dead (object_at v.regions p.0))) (objects_in w.regions)

-- the step to the state of n steps ago ended a cycle
abbrev pub EndsCycle : Trail → ℕ → Type 0
EndsCycle t n = ((state_ago (n + 1) t).phase ≡ Marking) × ((state_ago n t).phase ≡ Idle)

-- no step from the state of n steps ago to that of m steps ago ended a cycle, and the step after them did, if there is one
pub record IsUntilNext (t : Trail) (n m : ℕ) : Type 0 where
  pub within : m ≤ n
  pub none : (k : ℕ) → m ≤ k → k < n → ¬ EndsCycle t k
  pub next : (m ≡ 0) ⊎ EndsCycle t (m - 1)

-- the cycle that the step to the state of n steps ago ended: the place of the step, how many live objects it made dead ones, and
-- how many of these are gone in the current state, or in that before the next such step
pub record IsEndedCycle (t : Trail) (n : ℕ) (c : EndedCycle) : Type 0 where
  pub ends : EndsCycle t n
  pub place : c.place ≡ t.place - n
  pub condemned : c.condemned ≡ condemned_since (state_ago (n + 1) t) (state_ago n t)
  pub last : ℕ
  pub until : IsUntilNext t n last
  pub swept : c.swept ≡ removed_until (state_ago last t) (state_ago n t)

-- that cycle, or None if the step ended none
abbrev pub IsCycleAgo : Trail → ℕ → Option EndedCycle → Type 0
IsCycleAgo t n None = ¬ EndsCycle t n
IsCycleAgo t n (Some c) = IsEndedCycle t n c

-- a cycle, if there is one, before others
abbrev pub before_cycles : Option EndedCycle → List EndedCycle → List EndedCycle
before_cycles None cs = cs
before_cycles (Some c) cs = c ∷ cs

-- the cycles that the last n steps ended, the oldest first
abbrev pub AreLastCycles : Trail → ℕ → List EndedCycle → Type 0
AreLastCycles t zero cycles = cycles ≡ []
AreLastCycles t (suc n) cycles =
    (first : Option EndedCycle) × (later : List EndedCycle) × IsCycleAgo t n first
    × AreLastCycles t n later × (cycles ≡ before_cycles first later)

-- ---- what a record tells

-- no heap has more dead objects
abbrev pub dead_limit : ℕ
dead_limit = region_limit * cell_limit

-- the number of dead objects before the step that left this record, from that after it
abbrev pub dead_before : Undo → ℕ → ℕ
dead_before (Finish log) now = 0
dead_before (Sweep region dead) now = now + length dead
dead_before (Reclaim region storage) now = now + count_by is_dead storage.cells
dead_before left now = now

-- how many dead objects are left in the end, from how many are left after the step
abbrev pub left_before : Undo → ℕ → ℕ
left_before (Finish log) now = 0
left_before left now = now

-- the cycle that the step to a place ended, if it did, from the dead objects after it and those that are left in the end
abbrev pub cycle_by : Undo → ℕ → ℕ → ℕ → Option EndedCycle
cycle_by (Finish log) place dead left =
    Some (record { place = place; condemned = dead; swept = dead - left })
cycle_by u place dead left = None
