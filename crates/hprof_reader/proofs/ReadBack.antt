-- The sub-records of the dump of an image are read back.
use Rattle.std.proofs.Common.{◌≡◌, ℕ, ◌+◌, Bool, true, false, cond, eqb, List, [], ◌∷◌, ◌++◌, length, map, refl, sym, ap, ap₂, subst, ◌∙◌, append_assoc, arith}
use Rattle.std.specs.Prelude.{flat_map}
use Rattle.std.specs.Option.{option_map_or}
use Rattle.std.specs.List.{enumerate_from, AllByRecursion}
use Rattle.std.proofs.lemmas.List.{append-nil, length-append}
use Rattle.std.proofs.lemmas.List.Elements.{recursion_from_All}
use Rattle.std.proofs.lemmas.List.Concat.{flat_map-cons}
use Rattle.heap_class.specs.declared.IdSize.{IdSize}
use Rattle.heap_class.specs.declared.IdSize.TheVariants.{Four, Eight}
use Rattle.heap_class.specs.declared.Field.{Field}
use Rattle.heap_class.specs.declared.ObjKind.{ObjKind}
use Rattle.heap_class.specs.declared.ObjKind.TheVariants.{Instance, Array, Prim}
use Rattle.heap_class.specs.Kinds.{id_bytes, width_of, type_code}
use Rattle.heap_class.specs.Classes.{Class, instance_size, name_id}
use Rattle.hprof_text.specs.Fits.{FitsId, ShowsWhole, HoldsWhole, ClassDumpFits, DumpFits}
use Rattle.hprof_text.specs.Image.{Image, DumpedObject}
use Rattle.hprof_text.specs.Text.{u1, u2, u4, id, class_id, field_entry, class_dump, root as root_bytes, value_bytes, dump_of, object_dump, items_of, records_of_items, sub_records}
use Rattle.hprof_text.proofs.Lengths.{id_length, length-flat, length-value}
use Rattle.hprof_reader.specs.SubRecords.{Sub, root, sub_text, FitsSub, AreEntries}
use Rattle.hprof_reader.specs.Images.{no_entries, class_sub, kind_sub, object_sub, class_root, register_roots, AreRead}

zero_id_fits : (ids : IdSize) → FitsId ids 0
zero_id_fits Four = omega arith
zero_id_fits Eight = omega arith

-- ---- one sub-record

no_entries_are_entries : (ids : IdSize) (key : ℕ) → AreEntries ids key no_entries
no_entries_are_entries ids key = record { count = omega arith; list = []; counted = refl; spelled = refl; each = tt }

field_size : (ids : IdSize) (classes : List Class) (f : Field) → length (field_entry ids classes f) ≡ id_bytes ids + 1
unfolding field_entry
field_size ids classes f = length-append (id ids (name_id classes f.name)) (u1 (type_code f.kind)) ∙ ap (λ (n : ℕ). n + 1) (id_length ids (name_id classes f.name))

class_fits : (ids : IdSize) (classes : List Class) (c : ℕ × Class) → ClassDumpFits ids classes c → FitsSub ids (class_sub ids classes c)
class_fits ids classes c fits =
    let null = zero_id_fits ids in
    record {
      head = record { id = fits.0; trace = omega arith; super_id = fits.1; loader = null; signers = null; domain = null; reserved = null; also_reserved = null; size = fits.2 };
      constants = no_entries_are_entries ids 2;
      statics = no_entries_are_entries ids (id_bytes ids);
      fields = (fits.3, length-flat (field_entry ids classes) (id_bytes ids + 1) (field_size ids classes) c.1.fields);
    }

class_regrouped : (t a b c d e f g h i k s n v : List ℕ) → t ++ (a ++ b ++ c ++ d ++ e ++ f ++ g ++ h ++ i ++ (k ++ []) ++ (s ++ []) ++ (n ++ v)) ≡ t ++ a ++ b ++ c ++ d ++ e ++ f ++ g ++ h ++ i ++ k ++ s ++ n ++ v
class_regrouped t a b c d e f g h i k s n v = simp (append_assoc, append-nil)

class_same : (ids : IdSize) (classes : List Class) (c : ℕ × Class) → sub_text ids (class_sub ids classes c) ≡ class_dump ids classes c
unfolding class_dump
class_same ids classes c =
    class_regrouped (u1 0x20) (id ids (class_id c.0)) (u4 1) (id ids (option_map_or class_id c.1.sup 0)) (id ids 0) (id ids 0) (id ids 0) (id ids 0) (id ids 0) (u4 (instance_size ids classes c.0)) (u2 0) (u2 0) (u2 (length c.1.fields))
    (flat_map (field_entry ids classes) c.1.fields)

kind_same : (ids : IdSize) (classes : List Class) (x : ℕ) (kind : ObjKind) (words : List ℕ) → sub_text ids (kind_sub ids classes x kind words) ≡ dump_of ids classes x kind words
unfolding dump_of
kind_same ids classes x (Instance k) words = refl
kind_same ids classes x (Array k) words = refl
kind_same ids classes x (Prim kind) words = refl

object_same : (ids : IdSize) (classes : List Class) (o : DumpedObject) → sub_text ids (object_sub ids classes o) ≡ object_dump ids classes o
unfolding object_dump
object_same ids classes o = kind_same ids classes o.id o.kind o.words

kind_fits : (ids : IdSize) (classes : List Class) (x : ℕ) (kind : ObjKind) (words : List ℕ) → FitsId ids x → DumpFits ids classes kind words → FitsSub ids (kind_sub ids classes x kind words)
kind_fits ids classes x (Instance k) words small fits = (small, omega arith, fits.0, fits.1)
kind_fits ids classes x (Array k) words small fits = (small, omega arith, fits.0, fits.1, length-flat (id ids) (id_bytes ids) (id_length ids) words)
kind_fits ids classes x (Prim kind) words small fits = (small, omega arith, fits.0, length-flat (λ w. value_bytes ids (kind, w)) (width_of ids kind) (length-value ids kind) words)

root_same : (ids : IdSize) (tag x : ℕ) → sub_text ids (root tag x []) ≡ root_bytes ids tag x
unfolding root_bytes
root_same ids tag x = append-nil (u1 tag ++ id ids x)

-- ---- all of them

map_of_appended_lists : {A B : Type 0} (f : A → B) (xs ys : List A) → map f (xs ++ ys) ≡ map f xs ++ map f ys
map_of_appended_lists f [] ys = refl
map_of_appended_lists f (x ∷ xs) ys = ap (λ (l : List _). f x ∷ l) (map_of_appended_lists f xs ys)

-- single records, as items
single_records_as_items : {A : Type 0} (ids : IdSize) (told : A → Sub) (text : A → List ℕ) (xs : List A) → ((x : A) → sub_text ids (told x) ≡ text x)
    → map (sub_text ids) (map told xs) ≡ records_of_items (map (λ x. text x ∷ []) xs)
single_records_as_items ids told text [] same = refl
single_records_as_items ids told text (x ∷ xs) same = ap₂ (λ (t : List ℕ) (l : List (List ℕ)). t ∷ l) (same x) (single_records_as_items ids told text xs same) ∙ sym (flat_map-cons (λ item. item) (text x ∷ []) (map (λ x. text x ∷ []) xs))

-- the root of a register, if it has one
register_same : (ids : IdSize) (is_null : Bool) (x : ℕ) → map (sub_text ids) (cond is_null [] (root 0xff x [] ∷ [])) ≡ cond is_null [] (root_bytes ids 0xff x ∷ [])
register_same ids true x = refl
register_same ids false x = ap (λ (t : List ℕ). t ∷ []) (root_same ids 0xff x)

registers_same : (ids : IdSize) (xs : List ℕ) → map (sub_text ids) (flat_map register_roots xs) ≡ records_of_items (map (λ x. cond (eqb x 0) [] (root_bytes ids 0xff x ∷ [])) xs)
registers_same ids [] = refl
registers_same ids (x ∷ xs) =
    ap (map (sub_text ids)) (flat_map-cons register_roots x xs) ∙ map_of_appended_lists (sub_text ids) (register_roots x) (flat_map register_roots xs)
    ∙ ap₂ (λ (a b : List (List ℕ)). a ++ b) (register_same ids (eqb x 0) x) (registers_same ids xs)
    ∙ sym (flat_map-cons (λ (item : List (List ℕ)). item) (cond (eqb x 0) [] (root_bytes ids 0xff x ∷ [])) (map (λ x. cond (eqb x 0) [] (root_bytes ids 0xff x ∷ [])) xs))

joined_lists_keep_property : {A : Type 0} (P : A → Type 0) (xs ys : List A) → AllByRecursion P xs → AllByRecursion P ys → AllByRecursion P (xs ++ ys)
joined_lists_keep_property P [] ys a b = b
joined_lists_keep_property P (x ∷ xs) ys a b = (a.0, joined_lists_keep_property P xs ys a.1 b)

mapped_list_has_property : {A B : Type 0} (Q : A → Type 0) (P : B → Type 0) (f : A → B) (xs : List A) → ((x : A) → Q x → P (f x)) → AllByRecursion Q xs → AllByRecursion P (map f xs)
mapped_list_has_property Q P f [] each a = tt
mapped_list_has_property Q P f (x ∷ xs) each a = (each x a.0, mapped_list_has_property Q P f xs each a.1)

items_with_both_properties : {A : Type 0} (P Q : A → Type 0) (xs : List A) → AllByRecursion P xs → AllByRecursion Q xs → AllByRecursion (λ x. P x × Q x) xs
items_with_both_properties P Q [] a b = tt
items_with_both_properties P Q (x ∷ xs) a b = ((a.0, b.0), items_with_both_properties P Q xs a.1 b.1)

register_fits : (ids : IdSize) (is_null : Bool) (x : ℕ) → FitsId ids x → AllByRecursion (FitsSub ids) (cond is_null [] (root 0xff x [] ∷ []))
register_fits ids true x small = tt
register_fits ids false x small = ((omega arith, small, refl), tt)

registers_fit : (ids : IdSize) (xs : List ℕ) → AllByRecursion (FitsId ids) xs → AllByRecursion (FitsSub ids) (flat_map register_roots xs)
registers_fit ids [] a = tt
registers_fit ids (x ∷ xs) a =
    subst (AllByRecursion (FitsSub ids)) (sym (flat_map-cons register_roots x xs))
    (joined_lists_keep_property (FitsSub ids) (register_roots x) (flat_map register_roots xs) (register_fits ids (eqb x 0) x a.0) (registers_fit ids xs a.1))

map_of_four_parts : {A : Type 0} (f : Sub → A) (a b c d : List Sub) (p q r s : List A) → map f a ≡ p → map f b ≡ q → map f c ≡ r → map f d ≡ s → map f (a ++ b ++ c ++ d) ≡ p ++ q ++ r ++ s
map_of_four_parts f a b c d p q r s ea eb ec ed =
    map_of_appended_lists f (a ++ b ++ c) d ∙ ap₂ (λ (x y : List _). x ++ y) (map_of_appended_lists f (a ++ b) c ∙ ap₂ (λ (x y : List _). x ++ y) (map_of_appended_lists f a b ∙ ap₂ (λ (x y : List _). x ++ y) ea eb) ec) ed

sections_joined : (a b c d : List (List ℕ)) → a ++ b ++ c ++ d ≡ a ++ (b ++ (c ++ (d ++ [])))
sections_joined a b c d = simp (append_assoc, append-nil)

pub whole_image_is_read_back : (ids : IdSize) (image : Image) → HoldsWhole ids image 0 → ShowsWhole ids image → AreRead ids image
unfolding sub_records items_of
whole_image_is_read_back ids image holds shows =
    let classes = enumerate_from 0 image.classes in
    let dumps = records_of_items (map (λ c. class_dump ids image.classes c ∷ []) classes) in
    let roots = records_of_items (map (λ c. root_bytes ids 0x05 (class_id c.0) ∷ []) classes) in
    let objects = records_of_items (map (λ o. object_dump ids image.classes o ∷ []) image.objects) in
    let registers = records_of_items (map (λ x. cond (eqb x 0) [] (root_bytes ids 0xff x ∷ [])) image.registers) in
    record {
      spelled =
          map_of_four_parts (sub_text ids) (map (class_sub ids image.classes) classes) (map class_root classes) (map (object_sub ids image.classes) image.objects) (flat_map register_roots image.registers)
          dumps roots objects registers
          (single_records_as_items ids (class_sub ids image.classes) (class_dump ids image.classes) classes (class_same ids image.classes))
          (single_records_as_items ids class_root (λ c. root_bytes ids 0x05 (class_id c.0)) classes (λ c. root_same ids 0x05 (class_id c.0)))
          (single_records_as_items ids (object_sub ids image.classes) (object_dump ids image.classes) image.objects (object_same ids image.classes))
          (registers_same ids image.registers)
          ∙ sections_joined dumps roots objects registers;
      fit =
          let loaded = recursion_from_All (ClassDumpFits ids image.classes) classes holds.classes in
          joined_lists_keep_property (FitsSub ids) _ _
          (joined_lists_keep_property (FitsSub ids) _ _
          (joined_lists_keep_property (FitsSub ids) _ _ (mapped_list_has_property _ (FitsSub ids) (class_sub ids image.classes) classes (class_fits ids image.classes) loaded)
          (mapped_list_has_property (ClassDumpFits ids image.classes) (FitsSub ids) class_root classes (λ c fits. (omega arith, fits.0, refl)) loaded))
          (mapped_list_has_property (λ o. FitsId ids o.id × DumpFits ids image.classes o.kind o.words) (FitsSub ids) (object_sub ids image.classes) image.objects (λ o fits. kind_fits ids image.classes o.id o.kind o.words fits.0 fits.1)
          (items_with_both_properties (λ o. FitsId ids o.id) (λ o. DumpFits ids image.classes o.kind o.words) image.objects (recursion_from_All _ image.objects shows.objects) (recursion_from_All _ image.objects holds.objects))))
          (registers_fit ids image.registers (recursion_from_All _ image.registers shows.registers));
    }
