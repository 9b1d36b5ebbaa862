-- The heap of a dump.
use Rattle.std.specs.Prelude.{◌≡◌, ◌≢◌, ℕ, ◌+◌, ◌-◌, ◌*◌, ◌/◌, ◌%◌, ◌<◌, ◌≤◌, ◌==◌, min, find, List, [], ◌∷◌, length, slice_get, slice_index, Some, if◌then◌else◌}
use Rattle.std.specs.Option.{option_map_or}
use Rattle.heap_class.specs.declared.ObjKind.{ObjKind}
use Rattle.heap_class.specs.declared.ObjKind.TheVariants.{Array}
use Rattle.heap_class.specs.Kinds.{is_reference}
use Rattle.heap_region.specs.Regions.{Object, object_of}
use Rattle.heap_world.specs.State.{HeapState, register, word_of}
use Rattle.hprof_session.specs.Walks.{ItemTold}
use Rattle.hprof_plan.specs.declared.items.RootFound.{RootFound}
use Rattle.hprof_lines.specs.declared.values.SlotValue.{SlotValue}
use Rattle.hprof_lines.specs.Objects.{ObjectsTold, number_of, shown}
use Rattle.hprof_lines.specs.Roots.{arrays_for, roots_named, with_room}
use Rattle.hprof_lines.specs.Sessions.{root_tags}
use Rattle.hprof_heap.specs.ToldObjects.{ObjectTold, objects_of_dump}

-- ---- objects

-- the word that a value is in a heap, if objects have these ids by their numbers: 0 also for a reference to what isn't made
abbrev pub word_told : ObjectsTold → (ℕ → ℕ) → SlotValue → ℕ
word_told o id v =
    if v.value == 0 then 0
    else if is_reference v.kind then option_map_or id (number_of o v.value) 0 else shown v.kind v.value

-- the word of a slot, if a value is that of the slot; else 0
abbrev pub slot_told : ObjectsTold → (ℕ → ℕ) → List SlotValue → ℕ → ℕ
slot_told o id values slot = option_map_or (word_told o id) (find (λ v. v.slot == slot) values) 0

-- x names an object of this kind with n slots
abbrev pub NamesKind : HeapState → ℕ → ObjKind → ℕ → Type 0
NamesKind w x kind n =
    (a : Object) × (object_of w.regions x ≡ Some a) × (a.kind ≡ kind) × (length a.words ≡ n)

-- x names this object: it has the kind, the number of slots and the words that it is told to have
pub record IsObjectTold (o : ObjectsTold) (id : ℕ → ℕ) (w : HeapState) (x : ℕ) (t : ObjectTold) : Type 0 where
  pub named : NamesKind w x t.kind t.slots
  pub words : (slot : ℕ) → word_of w x slot ≡ slot_told o id t.values slot

-- ---- roots

-- from slot `first` of the array of roots on, arrays of this class have the objects with these numbers: 1,024 in each
pub record AreRoots (id : ℕ → ℕ) (w : HeapState) (roots class first : ℕ) (numbers : List ℕ) : Type 0 where
  pub arrays : (k : ℕ) → k < arrays_for (length numbers)
      → NamesKind w (word_of w roots (first + k)) (Array class) (min (length numbers - k * 1024) 1024)
  pub named : (i : ℕ) → i < length numbers
      → word_of w (word_of w roots (first + i / 1024)) (i % 1024) ≡ id (slice_index numbers i)

-- the same of each of these kinds of roots, with the classes from this on; the slots behind are null
abbrev pub AreKindsOfRoots : ObjectsTold → (ℕ → ℕ) → HeapState → List RootFound → ℕ → ℕ → ℕ → List ℕ → Type 0
AreKindsOfRoots o id w found roots kind first [] = (slot : ℕ) → first ≤ slot → word_of w roots slot ≡ 0
AreKindsOfRoots o id w found roots kind first (tag ∷ tags) =
    let numbers = with_room first (roots_named o tag found) in
    AreRoots id w roots kind first numbers
    × AreKindsOfRoots o id w found roots (kind + 1) (first + arrays_for (length numbers)) tags

-- ---- the whole

-- the heap has the classes of the plan and the objects that the records of a dump tell, each once, and register 7 of mutator 0
-- names the array of its roots; all other registers are null
pub record IsHeapOfDump (o : ObjectsTold) (items : List ItemTold) (found : List RootFound) (w : HeapState) : Type 0 where
  pub classes : w.classes ≡ o.plan.classes
  pub id : ℕ → ℕ
  pub objects : (n : ℕ) (t : ObjectTold) → slice_get (objects_of_dump o items) n ≡ Some (Some t)
      → IsObjectTold o id w (id n) t
  pub apart : (m n : ℕ) (t u : ObjectTold) → slice_get (objects_of_dump o items) m ≡ Some (Some t)
      → slice_get (objects_of_dump o items) n ≡ Some (Some u) → id m ≡ id n → m ≡ n
  pub roots_array : NamesKind w (register w 0 7) (Array o.plan.roots) 1024
  pub roots : AreKindsOfRoots o id w found (register w 0 7) (o.plan.roots + 1) 0 root_tags
  pub registers : (i : ℕ) → i ≢ 7 → slice_index w.registers i ≡ 0
