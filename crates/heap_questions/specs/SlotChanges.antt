-- The changes of one slot of an object.
use Rattle.std.specs.Prelude.{◌≡◌, ◌⊎◌, ℕ, zero, suc, ◌+◌, ◌-◌, ◌<◌, ◌≤◌, ◌==◌, ◌&&◌, Bool, false, List, [], ◌∷◌, ◌++◌, reverse, Option, Some, None, IsSome, if◌then◌else◌}
use Rattle.std.specs.Option.{option_map_or}
use Rattle.heap_class.specs.declared.ObjRef.{ObjRef}
use Rattle.heap_region.specs.Regions.{object_at}
use Rattle.heap_world.specs.State.{HeapState}
use Rattle.heap_step.specs.declared.Undo.{Undo}
use Rattle.heap_step.specs.declared.Undo.TheVariants.{Put, Store}
use Rattle.heap_trail.specs.Trail.{Trail, retained, state_ago}
use Rattle.heap_questions.specs.declared.past.slots.SlotChange.{SlotChange}
use Rattle.heap_questions.specs.Changes.{slot_word}
use Rattle.heap_questions.specs.Graph.{slot_refers}

-- what a step to this place did to a word: there is a change if there was a word before and after it, and they differ
abbrev pub changed : ℕ → Option ℕ → Option ℕ → List SlotChange
changed place (Some old) (Some new) =
    if old == new then [] else record { place = place; old = old; new = new } ∷ []
changed place None new = []
changed place (Some old) None = []

-- what the step to the state of n steps ago did to the word of a slot
abbrev pub change_ago : Trail → ObjRef → ℕ → ℕ → List SlotChange
change_ago t at s n =
    changed (t.place - n) (slot_word (state_ago (n + 1) t) at s) (slot_word (state_ago n t) at s)

-- what the last n steps did to it, the oldest first
abbrev pub last_changes : Trail → ObjRef → ℕ → ℕ → List SlotChange
last_changes t at s zero = []
last_changes t at s (suc n) = change_ago t at s n ++ last_changes t at s n

-- the object at a place stood there in the states of the last n steps; these are all that are retained, or the step before them
-- made it
pub record HasAge (t : Trail) (at : ObjRef) (n : ℕ) : Type 0 where
  pub within : n ≤ retained t
  pub stood : (m : ℕ) → m < n + 1 → IsSome (object_at (state_ago m t).regions at)
  pub before : (n ≡ retained t) ⊎ (object_at (state_ago (n + 1) t).regions at ≡ None)

-- the changes of a slot of the object at a place by the retained steps since it was made, the oldest first
abbrev pub IsWatched : Trail → ObjRef → ℕ → List SlotChange → Type 0
IsWatched t at s changes =
    (n : ℕ) × HasAge t at n × (changes ≡ last_changes t at s n)

-- the slot of the object at a place holds a reference
unfoldable pub refers_at : HeapState → ObjRef → ℕ → Bool
refers_at w at s = option_map_or (λ o. slot_refers w.classes o.kind s) (object_at w.regions at) false

-- ---- what a record tells

-- the same, the newest first
abbrev pub IsWatchedBack : Trail → ObjRef → ℕ → List SlotChange → Type 0
IsWatchedBack t at s changes = IsWatched t at s (reverse changes)

-- the word of a slot before the step that left this record, which is `now` after it, unless the step made the object
abbrev pub word_before : Undo → ObjRef → ℕ → ℕ → ℕ
word_before (Put a s old) at slot now =
    if (a.region == at.region) && (a.cell == at.cell) && (s == slot) then old else now
word_before (Store a s old logged) at slot now =
    if (a.region == at.region) && (a.cell == at.cell) && (s == slot) then old else now
word_before left at slot now = now
