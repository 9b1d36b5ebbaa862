-- The objects and registers of a dump are those of its image.
use Rattle.std.proofs.Common.{◌≡◌, ℕ, ◌==◌, Bool, true, false, not, cond, List, [], ◌∷◌, ◌++◌, length, map, filter, Option, Some, None, refl, ap, ap₂, ◌∙◌}
use Rattle.std.specs.Prelude.{flat_map, filter_map, zip, slice_get, unwrap_or}
use Rattle.std.specs.List.{AllByRecursion, enumerate_from}
use Rattle.std.proofs.lemmas.List.{append-nil}
use Rattle.std.proofs.lemmas.List.Elements.{recursion_from_All, filter_map-append}
use Rattle.heap_class.specs.declared.IdSize.{IdSize}
use Rattle.heap_class.specs.declared.Kind.{Kind}
use Rattle.heap_class.specs.declared.ObjKind.{ObjKind}
use Rattle.heap_class.specs.declared.ObjKind.TheVariants.{Instance, Array, Prim}
use Rattle.heap_class.specs.Classes.{Class, slots_under, slot_table_after, slots_of, slot_kinds_of}
use Rattle.hprof_text.specs.Image.{Image, DumpedObject, IsKnown}
use Rattle.hprof_text.specs.Text.{id, value_bytes}
use Rattle.hprof_text.specs.Fits.{WordsFit}
use Rattle.hprof_reader.specs.Images.{class_sub, kind_sub, object_sub, class_root, register_roots, subs_of}
use Rattle.hprof_reader.specs.SubParts.{id_at}
use Rattle.hprof_reader.specs.SubRecords.{Sub, ClassTold, root}
use Rattle.hprof_image.specs.Items.{◌>>=◌, items_in, all_there}
use Rattle.hprof_image.specs.Parts.{values_in, class_in, object_in, register_in}
use Rattle.hprof_image.specs.Images.{class_shown}
use Rattle.hprof_image.proofs.ReadItems.{given_values_are_all_there, each_item_is_kept, no_item_is_kept}
use Rattle.hprof_image.proofs.ReadValues.{values_of_slots_are_read, references_of_array_are_read, values_of_array_are_read}
use Rattle.hprof_image.proofs.ToldClasses.{dumped_class, dumped_classes, class_number_is_found}

-- ---- slots

slot_table_of_shown_classes : (above : List (List Kind)) (classes : List Class) → slot_table_after above (map class_shown classes) ≡ slot_table_after above classes
unfolding slot_table_after slots_under
slot_table_of_shown_classes above [] = refl
slot_table_of_shown_classes above (c ∷ classes) = slot_table_of_shown_classes (above ++ slots_under above c ∷ []) classes

pub shown_classes_have_same_slots : (classes : List Class) (k : ℕ) → slots_of (map class_shown classes) k ≡ slots_of classes k
unfolding slots_of
shown_classes_have_same_slots classes k = ap (λ (t : List (List Kind)). unwrap_or (slice_get t k) []) (slot_table_of_shown_classes [] classes)

-- ---- objects

object_is_told : (ids : IdSize) (classes : List Class) (x : ℕ) (kind : ObjKind) (words : List ℕ) → IsKnown classes kind (length words) → WordsFit ids (slot_kinds_of classes kind (length words)) words
    → object_in ids (dumped_classes ids classes) (map class_shown classes) (kind_sub ids classes x kind words) ≡ Some (Some (record { id = x; kind = kind; words = words }))
unfolding slot_kinds_of
object_is_told ids classes x (Instance k) words known fit =
    let shown : List Class = map class_shown classes in
    let values : List ℕ = flat_map (value_bytes ids) (zip (slots_of classes k) words) in
    ap (λ (o : Option ℕ). Some (o >>= λ n. values_in ids (slots_of shown n) values >>= λ ws. Some (record { id = x; kind = Instance n; words = ws }))) (class_number_is_found ids classes k known.0)
    ∙ ap (λ (kinds : List Kind). Some (values_in ids kinds values >>= λ ws. Some (record { id = x; kind = Instance k; words = ws }))) (shown_classes_have_same_slots classes k)
    ∙ ap (λ (o : Option (List ℕ)). Some (o >>= λ ws. Some (record { id = x; kind = Instance k; words = ws }))) (values_of_slots_are_read ids (slots_of classes k) words known.1 (recursion_from_All _ (zip (slots_of classes k) words) fit))
object_is_told ids classes x (Array k) words known fit =
    ap (λ (o : Option ℕ). Some (o >>= λ n. items_in (id_at ids) (flat_map (id ids) words) >>= λ ws. Some (record { id = x; kind = Array n; words = ws }))) (class_number_is_found ids classes k known)
    ∙ ap (λ (o : Option (List ℕ)). Some (o >>= λ ws. Some (record { id = x; kind = Array k; words = ws }))) (references_of_array_are_read ids words fit)
object_is_told ids classes x (Prim kind) words known fit = ap (λ (o : Option (List ℕ)). Some (o >>= λ ws. Some (record { id = x; kind = Prim kind; words = ws }))) (values_of_array_are_read ids kind words fit)

-- what holds of each object of a dump
pub record IsDumpedObject (ids : IdSize) (classes : List Class) (o : DumpedObject) : Type 0 where
  pub known : IsKnown classes o.kind (length o.words)
  pub words : WordsFit ids (slot_kinds_of classes o.kind (length o.words)) o.words

-- ---- what each section of the sub-records tells

no_class_in_object_sub : (ids : IdSize) (classes : List Class) (x : ℕ) (kind : ObjKind) (words : List ℕ) → class_in (kind_sub ids classes x kind words) ≡ None
no_class_in_object_sub ids classes x (Instance k) words = refl
no_class_in_object_sub ids classes x (Array k) words = refl
no_class_in_object_sub ids classes x (Prim kind) words = refl

no_register_in_object_sub : (ids : IdSize) (classes : List Class) (x : ℕ) (kind : ObjKind) (words : List ℕ) → register_in (kind_sub ids classes x kind words) ≡ None
no_register_in_object_sub ids classes x (Instance k) words = refl
no_register_in_object_sub ids classes x (Array k) words = refl
no_register_in_object_sub ids classes x (Prim kind) words = refl

no_register_root_is_kept : {B : Type 0} (value : Sub → Option B) → ((x : ℕ) → value (root 0xff x []) ≡ None) → (xs : List ℕ) → filter_map value (flat_map register_roots xs) ≡ []
no_register_root_is_kept value none [] = refl
no_register_root_is_kept value none (x ∷ xs) = by_test (x == 0) (no_register_root_is_kept value none xs)
  where
    by_test : (b : Bool) → filter_map value (flat_map register_roots xs) ≡ [] → filter_map value (cond b [] (root 0xff x [] ∷ []) ++ flat_map register_roots xs) ≡ []
    by_test true later = later
    by_test false later = rw (none x) later

registers_are_those_not_null : (xs : List ℕ) → filter_map register_in (flat_map register_roots xs) ≡ filter (λ x. not (x == 0)) xs
registers_are_those_not_null [] = refl
registers_are_those_not_null (x ∷ xs) = by_test (x == 0) (registers_are_those_not_null xs)
  where
    by_test : (b : Bool) → filter_map register_in (flat_map register_roots xs) ≡ filter (λ x. not (x == 0)) xs → filter_map register_in (cond b [] (root 0xff x [] ∷ []) ++ flat_map register_roots xs) ≡ cond (not b) (x ∷ filter (λ x. not (x == 0)) xs) (filter (λ x. not (x == 0)) xs)
    by_test true later = later
    by_test false later = ap (λ (l : List ℕ). x ∷ l) later

-- ---- all sections

kept_of_four_sections : {B : Type 0} (value : Sub → Option B) (a b c d : List Sub) (p q r s : List B) → filter_map value a ≡ p → filter_map value b ≡ q → filter_map value c ≡ r → filter_map value d ≡ s → filter_map value (a ++ b ++ c ++ d) ≡ p ++ q ++ r ++ s
kept_of_four_sections {B = B} value a b c d p q r s ea eb ec ed =
    filter_map-append value (a ++ b ++ c) d ∙ ap₂ (λ (x y : List B). x ++ y) (filter_map-append value (a ++ b) c ∙ ap₂ (λ (x y : List B). x ++ y) (filter_map-append value a b ∙ ap₂ (λ (x y : List B). x ++ y) ea eb) ec) ed

pub classes_in_subs : (ids : IdSize) (image : Image) → filter_map class_in (subs_of ids image) ≡ dumped_classes ids image.classes
classes_in_subs ids image =
    let es = enumerate_from 0 image.classes in
    let told : List ClassTold = dumped_classes ids image.classes in
    kept_of_four_sections class_in (map (class_sub ids image.classes) es) (map class_root es) (map (object_sub ids image.classes) image.objects) (flat_map register_roots image.registers) told [] [] []
    (each_item_is_kept class_in (class_sub ids image.classes) (dumped_class ids image.classes) (λ e. Unit {0}) (λ e any. refl) es (all_trivially es))
    (no_item_is_kept class_in class_root (λ e. refl) es)
    (no_item_is_kept class_in (object_sub ids image.classes) (λ o. no_class_in_object_sub ids image.classes o.id o.kind o.words) image.objects)
    (no_register_root_is_kept class_in (λ x. refl) image.registers)
    ∙ append-nil (told ++ [] ++ []) ∙ append-nil (told ++ []) ∙ append-nil told
  where
    all_trivially : {A : Type 0} (xs : List A) → AllByRecursion (λ x. Unit {0}) xs
    all_trivially [] = tt
    all_trivially (x ∷ xs) = (tt, all_trivially xs)

pub registers_in_subs : (ids : IdSize) (image : Image) → filter_map register_in (subs_of ids image) ≡ filter (λ x. not (x == 0)) image.registers
registers_in_subs ids image =
    let es = enumerate_from 0 image.classes in
    kept_of_four_sections register_in (map (class_sub ids image.classes) es) (map class_root es) (map (object_sub ids image.classes) image.objects) (flat_map register_roots image.registers) [] [] [] (filter (λ x. not (x == 0)) image.registers)
    (no_item_is_kept register_in (class_sub ids image.classes) (λ e. refl) es)
    (no_item_is_kept register_in class_root (λ e. refl) es)
    (no_item_is_kept register_in (object_sub ids image.classes) (λ o. no_register_in_object_sub ids image.classes o.id o.kind o.words) image.objects)
    (registers_are_those_not_null image.registers)

pub objects_in_subs : (ids : IdSize) (image : Image) → AllByRecursion (IsDumpedObject ids image.classes) image.objects
    → all_there (filter_map (object_in ids (dumped_classes ids image.classes) (map class_shown image.classes)) (subs_of ids image)) ≡ Some image.objects
objects_in_subs ids image dumped =
    let es = enumerate_from 0 image.classes in
    let value : Sub → Option (Option DumpedObject) = object_in ids (dumped_classes ids image.classes) (map class_shown image.classes) in
    let told : List (Option DumpedObject) = map (λ o. Some o) image.objects in
    ap (all_there {A = DumpedObject}) (
    kept_of_four_sections value (map (class_sub ids image.classes) es) (map class_root es) (map (object_sub ids image.classes) image.objects) (flat_map register_roots image.registers) [] [] told []
    (no_item_is_kept value (class_sub ids image.classes) (λ e. refl) es)
    (no_item_is_kept value class_root (λ e. refl) es)
    (each_item_is_kept value (object_sub ids image.classes) (λ o. Some o) (IsDumpedObject ids image.classes) (λ o is. object_is_told ids image.classes o.id o.kind o.words is.known is.words) image.objects dumped)
    (no_register_root_is_kept value (λ x. refl) image.registers)
    ∙ append-nil told
    )
    ∙ given_values_are_all_there image.objects
