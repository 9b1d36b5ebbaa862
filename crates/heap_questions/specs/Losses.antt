-- What registers reached, from state to state.
use Rattle.std.specs.Prelude.{◌≡◌, ◌↔◌, ℕ, ◌+◌, ◌-◌, ◌<◌, ◌≤◌, Option, Some, None, IsSome}
use Rattle.heap_class.specs.declared.ObjRef.{ObjRef}
use Rattle.heap_region.specs.Regions.{id_of, object_at}
use Rattle.heap_world.specs.Legal.{IsLegal}
use Rattle.heap_world.specs.Reach.{IsObject, Reaches}
use Rattle.heap_world.specs.State.{HeapState}
use Rattle.heap_step.specs.declared.Event.{Event}
use Rattle.heap_step.specs.Apply.{refusal_of, state_after}
use Rattle.heap_pins.specs.Images.{image_of}
use Rattle.heap_questions.specs.Graph.{HasPath}
use Rattle.heap_trail.specs.Trail.{Trail, retained, state_ago}
use Rattle.heap_questions.specs.declared.past.losses.Loss.{Loss}
use Rattle.heap_questions.specs.declared.past.losses.Loss.TheVariants.{Reached, At, Older}

-- ---- laws

-- the image of a legal state has a path to x exactly if a register reaches x
abbrev pub PathIsReach : HeapState → ℕ → Type 0
PathIsReach w x = IsLegal w → HasPath (image_of w) x ↔ Reaches w x

-- an object that no register reaches isn't reached after the event either
abbrev pub StaysUnreached : Event → HeapState → Type 0
StaysUnreached e w =
    IsLegal w → refusal_of e w ≡ None → (x : ℕ) → IsObject w x → ¬ Reaches w x
    → ¬ Reaches (state_after e w) x

-- ---- the object at a place

-- the id of the object that stands at this place now
abbrev pub id_now : Trail → ObjRef → ℕ
id_now t at = id_of t.current.regions at

-- the object stood at this place in each of the newest n states
abbrev pub StoodFor : Trail → ObjRef → ℕ → Type 0
StoodFor t at n = (m : ℕ) → m < n → IsSome (object_at (state_ago m t).regions at)

-- no register reached it in any of the newest n states
abbrev pub UnreachedFor : Trail → ObjRef → ℕ → Type 0
UnreachedFor t at n = (m : ℕ) → m < n → ¬ Reaches (state_ago m t) (id_now t at)

-- a register reached it before the retained step that led to this place, and none has since
pub record IsLostAt (t : Trail) (at : ObjRef) (place : ℕ) : Type 0 where
  pub ago : ℕ
  pub within : ago < retained t
  pub place_is : place ≡ t.place - ago
  pub stood : StoodFor t at (ago + 2)
  pub before : Reaches (state_ago (ago + 1) t) (id_now t at)
  pub since : UnreachedFor t at (ago + 1)

-- no register reached it in any retained state in which it stood
abbrev pub IsNeverReached : Trail → ObjRef → Type 0
IsNeverReached t at =
    (n : ℕ) → n ≤ retained t + 1 → StoodFor t at n → UnreachedFor t at n

-- a register reaches it, or it was lost then
abbrev pub IsLossOf : Trail → ObjRef → Loss → Type 0
IsLossOf t at Reached = Reaches t.current (id_now t at)
IsLossOf t at (At place) = IsLostAt t at place
IsLossOf t at Older = IsNeverReached t at

-- ---- halving

-- it has stood there since n steps ago, and in the retained state before that it didn't
pub record HasStood (t : Trail) (at : ObjRef) (n : ℕ) : Type 0 where
  pub within : n ≤ retained t
  pub stood : StoodFor t at (n + 1)
  pub before : n < retained t → object_at (state_ago (n + 1) t).regions at ≡ None

-- the newest state, of those since `oldest` steps ago, in which a register reached it; or none has since then
abbrev pub IsNewest : Trail → ObjRef → ℕ → Option ℕ → Type 0
IsNewest t at oldest None = UnreachedFor t at (oldest + 1)
IsNewest t at oldest (Some n) =
    (n ≤ oldest) × Reaches (state_ago n t) (id_now t at) × UnreachedFor t at n

-- the states older than `last` steps are left out: none is as old, or a register reached it in the next one
abbrev pub LeavesOut : Trail → ObjRef → ℕ → ℕ → Option ℕ → Type 0
LeavesOut t at oldest last None = last ≡ oldest
LeavesOut t at oldest last (Some n) =
    (n ≡ last + 1) × (n ≤ oldest) × Reaches (state_ago n t) (id_now t at)
