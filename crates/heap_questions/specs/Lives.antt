-- The objects that had an id, one after another.
use Rattle.std.specs.Prelude.{◌≡◌, ◌⊎◌, ℕ, zero, suc, ◌+◌, ◌-◌, ◌<◌, ◌≤◌, ◌==◌, Bool, true, false, nat_lt, List, [], ◌∷◌, Option, Some, None, is_some, IsSome, IfSome, if◌then◌else◌}
use Rattle.heap_class.specs.declared.ObjRef.{ObjRef}
use Rattle.heap_region.specs.Regions.{object_at, object_of, ref_of}
use Rattle.heap_world.specs.State.{HeapState}
use Rattle.heap_step.specs.declared.Undo.{Undo}
use Rattle.heap_trail.specs.Trail.{Trail, retained, rewound, state_ago}
use Rattle.heap_questions.specs.declared.past.lives.Life.{Life}
use Rattle.heap_questions.specs.Losses.{IsLossOf}
use Rattle.heap_questions.specs.PastTrails.{stood_before}

-- an object, dead or not, has the id x in the state of n steps ago
abbrev pub HasId : Trail → ℕ → ℕ → Type 0
HasId t x n = IsSome (object_of (state_ago n t).regions x)

-- one has it there, and none in the state before, or no state before is retained
abbrev pub BeginsAgo : Trail → ℕ → ℕ → Type 0
BeginsAgo t x n = HasId t x n × ((n ≡ retained t) ⊎ ¬ HasId t x (n + 1))

-- one has it in each state from that of n steps ago to that of m steps ago, and none in the next, if there is one
pub record HasStayed (t : Trail) (x n m : ℕ) : Type 0 where
  pub within : m ≤ n
  pub each : (k : ℕ) → m ≤ k → k < n + 1 → HasId t x k
  pub next : (m ≡ 0) ⊎ ¬ HasId t x (m - 1)

-- the place of the step to the state of n steps ago, None if it isn't retained
abbrev pub born_ago : Trail → ℕ → Option ℕ
born_ago t n = if nat_lt n (retained t) then Some (t.place - n) else None

-- the place of the step from the state of m steps ago, None if it is the current one
abbrev pub swept_ago : Trail → ℕ → Option ℕ
swept_ago t m = if m == 0 then None else Some (t.place - (m - 1))

-- what is told of the object that has the id since the state of n steps ago and last in that of m steps ago: its kind, the places
-- of the steps that made and removed it, and when registers lost it, as it is told about the state of m steps ago
pub record IsLifeTo (t : Trail) (x n m : ℕ) (l : Life) : Type 0 where
  pub at : ObjRef
  pub named : ref_of (state_ago m t).regions x ≡ Some at
  pub kind : IfSome (object_at (state_ago m t).regions at) (λ o. l.kind ≡ o.kind)
  pub born : l.born ≡ born_ago t n
  pub lost : IsLossOf (rewound m t) at l.lost
  pub swept : l.swept ≡ swept_ago t m

-- an object began to have the id in the state of n steps ago, and this is told of it
pub record IsLife (t : Trail) (x n : ℕ) (l : Life) : Type 0 where
  pub begins : BeginsAgo t x n
  pub last : ℕ
  pub stayed : HasStayed t x n last
  pub told : IsLifeTo t x n last l

-- what is told of it, or None if none began
abbrev pub IsLifeAgo : Trail → ℕ → ℕ → Option Life → Type 0
IsLifeAgo t x n None = ¬ BeginsAgo t x n
IsLifeAgo t x n (Some l) = IsLife t x n l

-- a life, if there is one, before others
abbrev pub before_lives : Option Life → List Life → List Life
before_lives None ls = ls
before_lives (Some l) ls = l ∷ ls

-- what is told of the objects that began to have the id in the newest n states, the oldest first
abbrev pub AreLives : Trail → ℕ → ℕ → List Life → Type 0
AreLives t x zero lives = lives ≡ []
AreLives t x (suc n) lives =
    (first : Option Life) × (later : List Life) × IsLifeAgo t x n first
    × AreLives t x n later × (lives ≡ before_lives first later)

-- ---- one state after another

-- what is told of the object, if one is asked for
abbrev pub IsLifeIf : Trail → ℕ → ℕ → ℕ → Bool → Option Life → Type 0
IsLifeIf t x n m true None = ⊥
IsLifeIf t x n m true (Some l) = IsLifeTo t x n m l
IsLifeIf t x n m false first = first ≡ None

-- whether an object stands in a cell, if there is one
abbrev pub stands_in : HeapState → Option ObjRef → Bool
stands_in w None = false
stands_in w (Some at) = is_some (object_at w.regions at)

-- whether one stood in a cell before the step with this record, from whether one with the same id stands after it
abbrev pub stood_in : Undo → Option ObjRef → Bool → Bool
stood_in left None now = false
stood_in left (Some at) now = stood_before left at now
