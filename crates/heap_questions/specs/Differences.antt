-- What differs between the objects of two images.
use Rattle.std.specs.Prelude.{◌≡◌, ◌⊎◌, ◌↔◌, ℕ, Bool, ◌==◌, ◌&&◌, not, if◌then◌else◌, List, [], ◌∷◌, Contains, Option, Some, None, filter, flat_map, length, map, slice_index}
use Rattle.std.specs.List.{range_with_len}
use Rattle.std.specs.List.Sorted.{IsStrictlyIncreasing}
use Rattle.heap_class.specs.Classes.{Class}
use Rattle.hprof_text.specs.Image.{DumpedObject, Image, IsKnown}
use Rattle.heap_questions.specs.declared.differences.Difference.{Difference}
use Rattle.heap_questions.specs.declared.differences.Difference.TheVariants.{Made, Gone, Changed}
use Rattle.heap_questions.specs.declared.past.seen.SeenSlot.{SeenSlot}
use Rattle.heap_questions.specs.Graph.{HasId, object_with, slot_refers}
use Rattle.heap_questions.specs.Histogram.{row_number}

-- two objects are of one class, and have as many slots
abbrev pub is_like : DumpedObject → DumpedObject → Bool
is_like o p = (row_number o.kind == row_number p.kind) && (length o.words == length p.words)

-- what slot s of an object holds
abbrev pub slot_seen : List Class → DumpedObject → ℕ → SeenSlot
slot_seen classes o s =
    record { word = slice_index o.words s; refers = slot_refers classes o.kind s }

-- two objects hold other words in slot s
abbrev pub differs_at : DumpedObject → DumpedObject → ℕ → Bool
differs_at o p s = not (slice_index o.words s == slice_index p.words s)

-- the slots in which two objects, each beside the classes of its image, hold other words, in order
unfoldable pub changes_of_slots : ℕ → List Class → DumpedObject → List Class → DumpedObject → List Difference
changes_of_slots x old_classes o new_classes p =
    map (λ s. Changed x s (slot_seen old_classes o s) (slot_seen new_classes p s))
    (filter (differs_at o p) (range_with_len 0 (length o.words)))

-- what differs between two objects of one id
unfoldable pub differences_of_two : ℕ → List Class → DumpedObject → List Class → DumpedObject → List Difference
differences_of_two x old_classes o new_classes p =
    if is_like o p then changes_of_slots x old_classes o new_classes p
    else Gone x ∷ Made x ∷ []

-- the same, if one or both may be missing
unfoldable pub differences_between : ℕ → List Class → Option DumpedObject → List Class → Option DumpedObject → List Difference
differences_between x old_classes None new_classes None = []
differences_between x old_classes None new_classes (Some p) = Made x ∷ []
differences_between x old_classes (Some o) new_classes None = Gone x ∷ []
differences_between x old_classes (Some o) new_classes (Some p) =
    differences_of_two x old_classes o new_classes p

-- what differs between the objects with id x
abbrev pub differences_of : Image → Image → ℕ → List Difference
differences_of older newer x =
    differences_between x older.classes (object_with older x) newer.classes (object_with newer x)

-- the ids of the objects of both images, each once, in order
pub record AreIdsOfBoth (older newer : Image) (ids : List ℕ) : Type 0 where
  pub each : (x : ℕ) → Contains ids x ↔ (HasId older x ⊎ HasId newer x)
  pub rising : IsStrictlyIncreasing ids

-- the rows are all that differs, by id
abbrev pub AreDifferences : Image → Image → List Difference → Type 0
AreDifferences older newer rows =
    (ids : List ℕ) × AreIdsOfBoth older newer ids
    × (rows ≡ flat_map (differences_of older newer) ids)

-- ---- comparing

-- the class of an object is there, if there is an object
abbrev pub IsKnownIf : List Class → Option DumpedObject → Type 0
IsKnownIf classes None = Unit {0}
IsKnownIf classes (Some o) = IsKnown classes o.kind (length o.words)
