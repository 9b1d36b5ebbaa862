-- For proofs: how the classes are kept, as their distinct names in order of first use, each with the number of its class, and
-- entries that give names by their places.
use Rattle.std.specs.Prelude.{◌≡◌, ℕ, ◌<◌, ◌≤◌, ◌==◌, List, [], ◌∷◌, ◌++◌, map, length, take, reverse, slice_index_or, Option, None}
use Rattle.std.specs.List.{All, sum_by, position_from}
use Rattle.std.specs.Map.{keys_of, values_of}
use Rattle.std.specs.Str.{bytes_eq}
use Rattle.indexmap.specs.IndexSet.{insert_all}
use Rattle.heap_class.specs.declared.Field.{Field}
use Rattle.heap_class.specs.declared.class_table.OwnField.{OwnField}
use Rattle.heap_class.specs.declared.class_table.ClassEntry.{ClassEntry}
use Rattle.heap_class.specs.declared.IdSize.TheVariants.{Four, Eight}
use Rattle.heap_class.specs.declared.Kind.{Kind}
use Rattle.heap_class.specs.declared.class_table.Sizes.{Sizes}
use Rattle.heap_class.specs.Kinds.{width_of}
use Rattle.heap_class.specs.Classes.{Class, names_in, slot_table_after, IsClassTable}
use Rattle.heap_class.specs.Limits.{class_limit, slot_limit, name_limit}

-- the field that an entry's field stands for
abbrev pub field_of_entry : List (List ℕ) → OwnField → Field
field_of_entry names f = record { name = slice_index_or names f.name []; kind = f.kind }

-- the class that an entry stands for
abbrev pub class_of_entry : List (List ℕ) → ClassEntry → Class
class_of_entry names e = record {
  name = slice_index_or names e.name [];
  sup = e.sup;
  fields = map (field_of_entry names) e.fields.items;
  is_array = e.is_array;
}

-- the places in an entry are below n
pub record IsEntryWithin (n : ℕ) (e : ClassEntry) : Type 0 where
  pub own : e.name < n
  pub each : All (λ (f : OwnField). f.name < n) e.fields.items

-- `own` stands for the fields, each name by its place among the names
pub record AreOwn (names : List (List ℕ)) (fields : List Field) (own : List OwnField) : Type 0 where
  pub within : All (λ (f : OwnField). f.name < length names) own
  pub fields_are : map (field_of_entry names) own ≡ fields

-- `at` is the place of the name among the names, and `own` stands for the fields
pub record AreNamed (names : List (List ℕ)) (name : List ℕ) (fields : List Field) (at : ℕ)
    (own : List OwnField) : Type 0 where
  pub name_within : at < length names
  pub name_is : slice_index_or names at [] ≡ name
  pub of_fields : AreOwn names fields own

-- the names are those of the entries, newest first, each of which appended those of its names that were new
abbrev pub IsPlaced : List (List ℕ) → List ClassEntry → Type 0
IsPlaced names [] = names ≡ []
IsPlaced names (e ∷ es) = IsEntryWithin (length names) e × (e.names_before ≤ length names)
    × (names ≡ insert_all bytes_eq (take e.names_before names) (names_in (class_of_entry names e)))
    × IsPlaced (take e.names_before names) es

-- the class has at most `slot_limit` fields and slots
pub record IsRoomy (e : ClassEntry) : Type 0 where
  pub few_fields : length e.fields.items ≤ slot_limit
  pub few_slots : length e.slots.items ≤ slot_limit

-- the sizes of instances with these slots, for both sizes of identifiers
pub record AreSizes (slots : List Kind) (sizes : Sizes) : Type 0 where
  pub of_four : sizes.of_four ≡ sum_by (width_of Four) slots
  pub of_eight : sizes.of_eight ≡ sum_by (width_of Eight) slots

-- the names and the entries fit together, and stand for a list of classes
pub record IsEntryTable (names : List (List ℕ)) (entries : List ClassEntry) : Type 0 where
  pub placed : IsPlaced names (reverse entries)
  pub classes : IsClassTable [] (map (class_of_entry names) entries)
  pub slots : map (λ (e : ClassEntry). e.slots.items) entries
      ≡ slot_table_after [] (map (class_of_entry names) entries)
  pub roomy : All IsRoomy entries
  pub sized : All (λ (e : ClassEntry). AreSizes e.slots.items e.sizes) entries
  pub short : All (λ (n : List ℕ). length n ≤ name_limit) names
  pub few : length entries ≤ class_limit

-- the number of the class whose name stands at the place, if there is one
abbrev pub class_named_at : List ClassEntry → ℕ → Option ℕ
class_named_at entries place = position_from (λ (e : ClassEntry). e.name == place) 0 entries

-- the names stand each with the number of the class that has it, and fit together with the entries
pub record IsNumberedTable (names : List (List ℕ × Option ℕ)) (entries : List ClassEntry) : Type 0 where
  pub table : IsEntryTable (keys_of names) entries
  pub numbered : (place : ℕ) → slice_index_or (values_of names) place None ≡ class_named_at entries place

-- `new` is `old` and then further names, which have no class
pub record HasMoreNames (old new : List (List ℕ × Option ℕ)) : Type 0 where
  pub added : List (List ℕ)
  pub names_are : new ≡ old ++ map (λ n. (n, None)) added
