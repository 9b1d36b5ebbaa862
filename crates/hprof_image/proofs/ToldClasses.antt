-- The classes of a dump are those of its image.
use Rattle.std.proofs.Common.{◌≡◌, ℕ, ◌+◌, ◌<◌, ◌≤◌, ◌==◌, Bool, true, cond, List, [], ◌∷◌, ◌++◌, length, length-append, map, Option, Some, None, refl, sym, ap, subst, ◌∙◌, arith, inl, inr}
use Rattle.std.specs.Prelude.{flat_map, slice_get, option_map, All}
use Rattle.std.specs.Option.{option_map_or}
use Rattle.std.specs.List.{AllByRecursion, enumerate_from, position_from, list_any}
use Rattle.std.specs.Str.{bytes_eq}
use Rattle.std.proofs.lemmas.Bool.{cases_lt, eq-eqb, ne_eqb}
use Rattle.std.proofs.lemmas.List.{map-id}
use Rattle.std.proofs.lemmas.List.Elements.{recursion_from_All}
use Rattle.std.proofs.lemmas.List.FromFn.{length-enumerate_from, get_or-enumerate_from}
use Rattle.std.proofs.lemmas.Option.{slice_get-get_or}
use Rattle.heap_class.specs.declared.IdSize.{IdSize}
use Rattle.heap_class.specs.declared.Field.{Field}
use Rattle.heap_class.specs.Kinds.{type_code}
use Rattle.heap_class.specs.Classes.{Class, names_in, name_id, instance_size, instance_class, IsClassTable}
use Rattle.hprof_text.specs.Fits.{FieldFits, ClassDumpFits}
use Rattle.hprof_text.specs.Text.{u1, id, class_id, field_entry}
use Rattle.hprof_text.proofs.Lengths.{id_length}
use Rattle.hprof_text.proofs.Loops.{all_hold_with_their_numbers}
use Rattle.hprof_text.proofs.Tables.{IsSmall, classes_small}
use Rattle.hprof_reader.specs.declared.fields.OwnField.{OwnField}
use Rattle.hprof_reader.specs.Fields.{own_field_text, FitsOwnField, own_field_parts}
use Rattle.hprof_reader.specs.Images.{no_entries}
use Rattle.hprof_reader.specs.SubRecords.{ClassTold}
use Rattle.hprof_reader.proofs.ReadFields.{own_field_reader}
use Rattle.hprof_image.specs.Items.{◌>>=◌, items_in, all_there}
use Rattle.hprof_image.specs.Parts.{Names, found, number_of, super_of, field_of, class_of}
use Rattle.hprof_image.specs.Images.{class_shown}
use Rattle.hprof_image.proofs.ReadItems.{spelled_items_are_read, values_of_parts_are_all_there, numbered_items_without_numbers}
use Rattle.hprof_image.proofs.ReadValues.{id_has_bytes}
use Rattle.hprof_image.proofs.FoundNames.{numbered_entry_is_found, class_ids_apart, name_entries, name_of_class_is_found, own_name_is_in_class, all_by_recursion_of_weaker, field_names_are_in_class}

-- class k, as its sub-record tells it
abbrev pub dumped_class : IdSize → List Class → ℕ × Class → ClassTold
dumped_class ids classes c = record {
  head = record {
    id = class_id c.0;
    trace = 1;
    super_id = option_map_or class_id c.1.sup 0;
    loader = 0;
    signers = 0;
    domain = 0;
    reserved = 0;
    also_reserved = 0;
    size = instance_size ids classes c.0;
  };
  constants = no_entries;
  statics = no_entries;
  fields = record { count = length c.1.fields; bytes = flat_map (field_entry ids classes) c.1.fields };
}

-- all of them
abbrev pub dumped_classes : IdSize → List Class → List ClassTold
dumped_classes ids classes = map (dumped_class ids classes) (enumerate_from 0 classes)

-- the entries of the classes of a dump
abbrev pub class_entries : List Class → List (ℕ × ℕ)
class_entries classes = map (λ c. (class_id c.0, name_id classes c.1.name)) (enumerate_from 0 classes)

-- the names of a dump
abbrev pub names_of : List Class → Names
names_of classes = record { names = name_entries classes; loads = class_entries classes }

-- ---- numbers

class_number_is_found_from : (ids : IdSize) (all xs : List Class) (i n : ℕ) → i ≤ n → n < i + length xs → position_from (λ c. class_id n == c.head.id) i (map (dumped_class ids all) (enumerate_from i xs)) ≡ Some n
class_number_is_found_from ids all [] i n low high = absurd (omega (arith, low, high))
class_number_is_found_from ids all (x ∷ xs) i n low high =
    let more : List ClassTold = map (dumped_class ids all) (enumerate_from (i + 1) xs) in
    elim (cases_lt i n) [
      | inl less ↦
          ap (λ (b : Bool). cond b (Some i) (position_from (λ c. class_id n == c.head.id) (i + 1) more)) (ne_eqb (class_id n) (class_id i) (λ e. let same : n ≡ i = class_ids_apart n i e in absurd (omega (arith, same, less))))
          ∙ class_number_is_found_from ids all xs (i + 1) n (omega (arith, less)) (omega (arith, high))
      | inr past ↦
          let same : n ≡ i = omega (arith, past, low) in
          ap (λ (b : Bool). cond b (Some i) (position_from (λ c. class_id n == c.head.id) (i + 1) more)) (eq-eqb (class_id n) (class_id i) (ap class_id same)) ∙ ap (λ (m : ℕ). Some m) (sym same)
    ]

pub class_number_is_found : (ids : IdSize) (classes : List Class) (n : ℕ) → n < length classes → number_of (dumped_classes ids classes) (class_id n) ≡ Some n
class_number_is_found ids classes n within = class_number_is_found_from ids classes classes 0 n (omega arith) (omega (arith, within))

super_is_found : (ids : IdSize) (classes : List Class) (sup : Option ℕ) → ((s : ℕ) → sup ≡ Some s → s < length classes) → super_of (dumped_classes ids classes) (option_map_or class_id sup 0) ≡ Some sup
super_is_found ids classes None within = refl
super_is_found ids classes (Some s) within =
    ap (λ (b : Bool). cond b (Some None) (option_map (λ k. Some k) (number_of (dumped_classes ids classes) (class_id s)))) (ne_eqb (class_id s) 0 (λ e. absurd (omega (arith, e))))
    ∙ ap (λ (o : Option ℕ). option_map (λ k. Some k) o) (class_number_is_found ids classes s (within s refl))

-- ---- own fields

-- an own field, by the id of its name
abbrev own_field : List Class → Field → OwnField
own_field classes f = record { name = name_id classes f.name; kind = f.kind }

field_entries_are_texts_of_own_fields : (ids : IdSize) (classes : List Class) (fs : List Field) → flat_map (field_entry ids classes) fs ≡ flat_map (own_field_text ids) (map (own_field classes) fs)
unfolding field_entry
field_entries_are_texts_of_own_fields ids classes [] = refl
field_entries_are_texts_of_own_fields ids classes (f ∷ fs) = ap (λ (l : List ℕ). own_field_text ids (own_field classes f) ++ l) (field_entries_are_texts_of_own_fields ids classes fs)

own_fields_fit : (ids : IdSize) (classes : List Class) (fs : List Field) → AllByRecursion (FieldFits ids classes) fs → AllByRecursion (FitsOwnField ids) (map (own_field classes) fs)
own_fields_fit ids classes [] fit = tt
own_fields_fit ids classes (f ∷ fs) fit = (fit.0.0, own_fields_fit ids classes fs fit.1)

own_fields_are_read : (ids : IdSize) (classes : List Class) (fs : List Field) → All (FieldFits ids classes) fs → items_in (own_field_parts ids) (flat_map (field_entry ids classes) fs) ≡ Some (map (own_field classes) fs)
own_fields_are_read ids classes fs fit =
    ap (items_in (own_field_parts ids)) (field_entries_are_texts_of_own_fields ids classes fs)
    ∙ spelled_items_are_read (own_field_text ids) (FitsOwnField ids) (own_field_parts ids) (own_field_reader ids) (λ f. omega (arith, length-append (id ids f.name) (u1 (type_code f.kind)), id_length ids f.name, id_has_bytes ids)) (map (own_field classes) fs)
    (own_fields_fit ids classes fs (recursion_from_All (FieldFits ids classes) fs fit))

abbrev HasFoundName : List Class → Field → Type 0
HasFoundName classes f = found (name_entries classes) (name_id classes f.name) ≡ Some f.name

fields_are_told : (classes : List Class) (fs : List Field) → AllByRecursion (HasFoundName classes) fs → all_there (map (field_of (names_of classes)) (map (own_field classes) fs)) ≡ Some fs
fields_are_told classes fs named =
    values_of_parts_are_all_there (field_of (names_of classes)) (own_field classes) (λ f. f) (HasFoundName classes) (λ f is. ap (λ (o : Option (List ℕ)). option_map (λ name. record { name = name; kind = f.kind }) o) is) fs named
    ∙ ap (λ (l : List Field). Some l) (map-id fs)

-- ---- classes

-- what holds of each class of a dump, with its number
pub record IsDumpedClass (ids : IdSize) (classes : List Class) (e : ℕ × Class) : Type 0 where
  pub stands : slice_get classes e.0 ≡ Some e.1
  pub fits : ClassDumpFits ids classes e
  pub sup : (s : ℕ) → e.1.sup ≡ Some s → s < length classes

class_is_told : (ids : IdSize) (classes : List Class) (e : ℕ × Class) → IsDumpedClass ids classes e → class_of ids (names_of classes) (dumped_classes ids classes) (dumped_class ids classes e) ≡ Some (class_shown e.1)
class_is_told ids classes e is =
    let names = names_of classes in
    let told = dumped_classes ids classes in
    let c : Class = e.1 in
    let bytes : List ℕ = flat_map (field_entry ids classes) c.fields in
    let named = λ (f : Field) (there : list_any (bytes_eq f.name) (names_in c) ≡ true). name_of_class_is_found classes e.0 c f.name is.stands there in
    let fields_named : AllByRecursion (HasFoundName classes) c.fields = all_by_recursion_of_weaker (λ f. list_any (bytes_eq f.name) (names_in c) ≡ true) (HasFoundName classes) named c.fields (field_names_are_in_class c) in
    ap (λ (o : Option ℕ). o >>= λ x. found names.names x >>= λ name. super_of told (option_map_or class_id c.sup 0) >>= λ sup. items_in (own_field_parts ids) bytes >>= λ own. all_there (map (field_of names) own) >>= λ fields. Some (instance_class name sup fields))
    (numbered_entry_is_found class_id (λ (c : ℕ × Class). name_id classes c.1.name) class_ids_apart classes e.0 0 e.0 c (omega arith) is.stands)
    ∙ ap (λ (o : Option (List ℕ)). o >>= λ name. super_of told (option_map_or class_id c.sup 0) >>= λ sup. items_in (own_field_parts ids) bytes >>= λ own. all_there (map (field_of names) own) >>= λ fields. Some (instance_class name sup fields))
    (name_of_class_is_found classes e.0 c c.name is.stands (own_name_is_in_class c))
    ∙ ap (λ (o : Option (Option ℕ)). o >>= λ sup. items_in (own_field_parts ids) bytes >>= λ own. all_there (map (field_of names) own) >>= λ fields. Some (instance_class c.name sup fields)) (super_is_found ids classes c.sup is.sup)
    ∙ ap (λ (o : Option (List OwnField)). o >>= λ own. all_there (map (field_of names) own) >>= λ fields. Some (instance_class c.name c.sup fields)) (own_fields_are_read ids classes c.fields is.fits.4)
    ∙ ap (λ (o : Option (List Field)). o >>= λ fields. Some (instance_class c.name c.sup fields)) (fields_are_told classes c.fields fields_named)

numbered_classes_stand : (classes : List Class) → All (λ e. slice_get classes e.0 ≡ Some e.1) (enumerate_from 0 classes)
numbered_classes_stand classes k d within =
    let less : k < length classes = omega (arith, within, length-enumerate_from 0 classes) in
    let place : 0 + k ≡ k = omega arith in
    subst (λ (e : ℕ × Class). slice_get classes e.0 ≡ Some e.1) (sym (get_or-enumerate_from 0 classes k d less)) (ap (slice_get classes) place ∙ slice_get-get_or classes k d.1 less)

pub classes_are_dumped : (ids : IdSize) (classes : List Class) → IsClassTable [] classes → All (ClassDumpFits ids classes) (enumerate_from 0 classes) → AllByRecursion (IsDumpedClass ids classes) (enumerate_from 0 classes)
classes_are_dumped ids classes table fit =
    let small : All (λ e. IsSmall (length classes) e.1) (enumerate_from 0 classes) =
    all_hold_with_their_numbers (λ e. IsSmall (length classes) e.1) (IsSmall (length classes)) (length classes) 0 classes (omega arith) (λ k c less is. is) (classes_small classes table) in
    recursion_from_All (IsDumpedClass ids classes) (enumerate_from 0 classes) (λ k d within. record { stands = numbered_classes_stand classes k d within; fits = fit k d within; sup = (small k d within).sup })

pub classes_are_told : (ids : IdSize) (classes : List Class) → AllByRecursion (IsDumpedClass ids classes) (enumerate_from 0 classes) → all_there (map (class_of ids (names_of classes) (dumped_classes ids classes)) (dumped_classes ids classes)) ≡ Some (map class_shown classes)
classes_are_told ids classes dumped =
    values_of_parts_are_all_there (class_of ids (names_of classes) (dumped_classes ids classes)) (dumped_class ids classes) (λ e. class_shown e.1) (IsDumpedClass ids classes) (class_is_told ids classes) (enumerate_from 0 classes) dumped
    ∙ ap (λ (l : List Class). Some l) (numbered_items_without_numbers class_shown 0 classes)
