-- References between the objects of an image, and paths along them.
use Rattle.std.specs.Prelude.{◌≡◌, ◌⊎◌, ◌<◌, ◌≤◌, ℕ, Bool, length, true, false, ◌==◌, List, [], ◌∷◌, slice_get, Option, Some, None, IsSome, option_and_then, if◌then◌else◌}
use Rattle.std.specs.Option.{option_map_or}
use Rattle.std.specs.List.{find}
use Rattle.heap_class.specs.declared.ObjKind.{ObjKind}
use Rattle.heap_class.specs.declared.ObjKind.TheVariants.{Instance, Array, Prim}
use Rattle.heap_class.specs.Kinds.{is_reference}
use Rattle.heap_class.specs.Classes.{Class, slots_of}
use Rattle.hprof_text.specs.Image.{Image, DumpedObject}

-- slot s of an object of this kind holds a reference, if it is there
unfoldable pub slot_refers : List Class → ObjKind → ℕ → Bool
slot_refers classes (Instance k) s =
    option_map_or is_reference (slice_get (slots_of classes k) s) false
slot_refers classes (Array k) s = true
slot_refers classes (Prim kind) s = is_reference kind

-- the object with this id, the first if there are several
unfoldable pub object_with : Image → ℕ → Option DumpedObject
object_with image x = find (λ o. o.id == x) image.objects

-- the image has an object with this id
abbrev pub HasId : Image → ℕ → Type 0
HasId image x = IsSome (object_with image x)

-- what slot s of an object names; none if it isn't there or holds a value
unfoldable pub slot_names : List Class → DumpedObject → ℕ → Option ℕ
slot_names classes o s = if slot_refers classes o.kind s then slice_get o.words s else None

-- what slot s of the object x names
unfoldable pub named : Image → ℕ → ℕ → Option ℕ
named image x s = option_and_then (λ o. slot_names image.classes o s) (object_with image x)

-- where these slots lead from x, one after another
abbrev pub followed : Image → ℕ → List ℕ → Option ℕ
followed image x [] = Some x
followed image x (s ∷ ss) = option_and_then (λ y. followed image y ss) (named image x s)

-- register r names an object from which these slots lead to the object x, one after another
pub record IsPathTo (image : Image) (r : ℕ) (slots : List ℕ) (x : ℕ) : Type 0 where
  pub there : HasId image x
  pub leads : option_and_then (λ y. followed image y slots) (slice_get image.registers r) ≡ Some x

-- no path to x has fewer slots
abbrev pub IsShortest : Image → List ℕ → ℕ → Type 0
IsShortest image slots x =
    (r : ℕ) (others : List ℕ) → IsPathTo image r others x → length slots ≤ length others

-- the first list comes before the second, or they are the same: by the first number in which they differ
abbrev pub AreAtMost : List ℕ → List ℕ → Type 0
AreAtMost [] ys = Unit {0}
AreAtMost (x ∷ xs) [] = ⊥
AreAtMost (x ∷ xs) (y ∷ ys) = (x < y) ⊎ ((x ≡ y) × AreAtMost xs ys)

-- of all paths to x with as many slots, it is the first by register, then by slot
abbrev pub IsFirstPath : Image → ℕ → List ℕ → ℕ → Type 0
IsFirstPath image r slots x =
    (q : ℕ) (others : List ℕ) → IsPathTo image q others x → length others ≡ length slots
    → AreAtMost (r ∷ slots) (q ∷ others)

-- a register and some slots lead to x
abbrev pub HasPath : Image → ℕ → Type 0
HasPath image x = (r : ℕ) × (slots : List ℕ) × IsPathTo image r slots x

-- no register reaches x
abbrev pub IsUnreached : Image → ℕ → Type 0
IsUnreached image x = (r : ℕ) (slots : List ℕ) → ¬ IsPathTo image r slots x
