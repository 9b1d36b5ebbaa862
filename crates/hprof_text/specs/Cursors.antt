-- The places of cursors.
use Rattle.std.specs.Prelude.{◌≡◌, ℕ, ◌+◌, ◌≤◌, List, [], ◌∷◌, ◌++◌, length, drop, slice_get, Option, Some, None}
use Rattle.heap_class.specs.declared.IdSize.{IdSize}
use Rattle.heap_class.specs.declared.ObjRef.{ObjRef}
use Rattle.hprof_text.specs.declared.Cursor.{Cursor}
use Rattle.hprof_text.specs.declared.Cursor.TheVariants.{Start, Item, Object, End, Past}
use Rattle.hprof_text.specs.declared.section.Section.{Section}
use Rattle.hprof_text.specs.declared.section.Section.TheVariants.{Numbered, Objects}
use Rattle.hprof_text.specs.Image.{Image}
use Rattle.hprof_text.specs.Text.{after, items_of, records_of_items, records_in, sub_records}
use Rattle.hprof_text.specs.Segments.{records_from}

-- the sections from this one on, or none
abbrev pub sections_from : Option Section → List Section
sections_from (Some s) = s ∷ after s
sections_from None = []

-- the sub-records from item n of a section on
abbrev pub from_item : IdSize → Image → Section → ℕ → List (List ℕ)
from_item ids image s n = records_of_items (drop n (items_of ids image s)) ++ records_in ids image (after s)

-- these are the sub-records from the cursor on, of a view whose objects have these places
abbrev pub IsRest : IdSize → Image → List ObjRef → Cursor → List (List ℕ) → Type 0
IsRest ids image places Start rest = ⊥
IsRest ids image places (Item s n) rest = rest ≡ from_item ids image (Numbered s) n
IsRest ids image places (Object at) rest =
    (n : ℕ) × (slice_get places n ≡ Some at) × (rest ≡ from_item ids image Objects n)
IsRest ids image places End rest = rest ≡ []
IsRest ids image places Past rest = ⊥

-- piece i is the first of those that have these sub-records, and the end
abbrev pub IsBefore : IdSize → Image → List (List ℕ) → ℕ → Type 0
IsBefore ids image rest i =
    (m : ℕ) × (i ≡ m + 1) × (drop m (records_from (sub_records ids image)) ≡ records_from rest)

-- the cursor is before piece i
abbrev pub IsAt : IdSize → Image → List ObjRef → Cursor → ℕ → Type 0
IsAt ids image places Start i = i ≡ 0
IsAt ids image places Past i = length (records_from (sub_records ids image)) + 1 ≤ i
IsAt ids image places cursor i =
    (rest : List (List ℕ)) × IsRest ids image places cursor rest × IsBefore ids image rest i
