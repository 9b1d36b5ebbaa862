-- The dump of an image is that of what it tells.
use Rattle.std.proofs.Common.{◌≡◌, ℕ, ◌+◌, ◌==◌, Bool, true, false, not, cond, List, [], ◌∷◌, ◌++◌, length, map, filter, refl, ap, ap₂, ◌∙◌}
use Rattle.std.specs.Prelude.{flat_map, sum_by, zip}
use Rattle.std.specs.Option.{option_map_or}
use Rattle.std.specs.List.{concat, enumerate_from, position_or_len}
use Rattle.std.specs.Str.{bytes_eq}
use Rattle.heap_class.specs.declared.IdSize.{IdSize}
use Rattle.heap_class.specs.declared.Field.{Field}
use Rattle.heap_class.specs.declared.Kind.{Kind}
use Rattle.heap_class.specs.declared.ObjKind.{ObjKind}
use Rattle.heap_class.specs.declared.ObjKind.TheVariants.{Instance, Array, Prim}
use Rattle.heap_class.specs.Kinds.{width_of, type_code}
use Rattle.heap_class.specs.Classes.{Class, names_in, first_uses, name_table, name_id, instance_size}
use Rattle.hprof_text.specs.Image.{Image, DumpedObject}
use Rattle.hprof_text.specs.Text.{u1, u2, u4, id, class_id, record_of, header, utf8, load_class, trace, field_entry, class_dump, root_sticky_class, root_unknown, value_bytes, dump_of, object_dump, opening_records, items_of, records_of_items, sub_records}
use Rattle.hprof_text.specs.Segments.{segment_records, end_record, dump_text}
use Rattle.hprof_image.specs.Images.{class_shown, image_shown}
use Rattle.hprof_image.proofs.ToldObjects.{shown_classes_have_same_slots}

-- ---- lists

numbered_shown_classes_mapped : {B : Type 0} (f g : ℕ × Class → B) → ((k : ℕ) (c : Class) → f (k, class_shown c) ≡ g (k, c)) → (n : ℕ) (xs : List Class) → map f (enumerate_from n (map class_shown xs)) ≡ map g (enumerate_from n xs)
numbered_shown_classes_mapped f g same n [] = refl
numbered_shown_classes_mapped {B = B} f g same n (x ∷ xs) = ap₂ (λ (y : B) (l : List B). y ∷ l) (same n x) (numbered_shown_classes_mapped f g same (n + 1) xs)

numbered_shown_classes_joined : (f g : ℕ × Class → List ℕ) → ((k : ℕ) (c : Class) → f (k, class_shown c) ≡ g (k, c)) → (n : ℕ) (xs : List Class) → flat_map f (enumerate_from n (map class_shown xs)) ≡ flat_map g (enumerate_from n xs)
numbered_shown_classes_joined f g same n [] = refl
numbered_shown_classes_joined f g same n (x ∷ xs) = ap₂ (λ (y l : List ℕ). y ++ l) (same n x) (numbered_shown_classes_joined f g same (n + 1) xs)

-- ---- names and sizes

names_in_shown_classes : (classes : List Class) → flat_map names_in (map class_shown classes) ≡ flat_map names_in classes
unfolding names_in
names_in_shown_classes [] = refl
names_in_shown_classes (c ∷ classes) = ap (λ (l : List (List ℕ)). names_in c ++ l) (names_in_shown_classes classes)

name_table_of_shown_classes : (classes : List Class) → name_table (map class_shown classes) ≡ name_table classes
unfolding name_table
name_table_of_shown_classes classes = ap first_uses (names_in_shown_classes classes)

name_id_in_shown_classes : (classes : List Class) (name : List ℕ) → name_id (map class_shown classes) name ≡ name_id classes name
unfolding name_id
name_id_in_shown_classes classes name = ap (λ (t : List (List ℕ)). 1 + position_or_len (bytes_eq name) t) (name_table_of_shown_classes classes)

instance_size_in_shown_classes : (ids : IdSize) (classes : List Class) (k : ℕ) → instance_size ids (map class_shown classes) k ≡ instance_size ids classes k
unfolding instance_size
instance_size_in_shown_classes ids classes k = ap (sum_by (width_of ids)) (shown_classes_have_same_slots classes k)

-- ---- the records before the segments

load_of_shown_class : (ids : IdSize) (classes : List Class) (k : ℕ) (c : Class) → load_class ids (map class_shown classes) (k, class_shown c) ≡ load_class ids classes (k, c)
unfolding load_class
load_of_shown_class ids classes k c = ap (λ (n : ℕ). record_of 0x02 (u4 (k + 1) ++ id ids (class_id k) ++ u4 1 ++ id ids n)) (name_id_in_shown_classes classes c.name)

opening_of_shown_image : (ids : IdSize) (image : Image) (time : ℕ) → opening_records ids (image_shown image) time ≡ opening_records ids image time
unfolding opening_records
opening_of_shown_image ids image time =
    ap₂ (λ (table : List (List ℕ)) (loads : List ℕ). header ids time ++ flat_map (utf8 ids) (enumerate_from 1 table) ++ loads ++ trace) (name_table_of_shown_classes image.classes)
    (numbered_shown_classes_joined (load_class ids (map class_shown image.classes)) (load_class ids image.classes) (load_of_shown_class ids image.classes) 0 image.classes)

-- ---- sub-records

field_entries_in_shown_classes : (ids : IdSize) (classes : List Class) (fs : List Field) → flat_map (field_entry ids (map class_shown classes)) fs ≡ flat_map (field_entry ids classes) fs
unfolding field_entry
field_entries_in_shown_classes ids classes [] = refl
field_entries_in_shown_classes ids classes (f ∷ fs) = ap₂ (λ (n : ℕ) (l : List ℕ). (id ids n ++ u1 (type_code f.kind)) ++ l) (name_id_in_shown_classes classes f.name) (field_entries_in_shown_classes ids classes fs)

-- the sub-record of class k with instances of this size and these fields
abbrev class_bytes_with : IdSize → ℕ → Class → ℕ → List ℕ → List ℕ
class_bytes_with ids k c size fields =
    u1 0x20 ++ id ids (class_id k) ++ u4 1 ++ id ids (option_map_or class_id c.sup 0)
    ++ id ids 0 ++ id ids 0 ++ id ids 0 ++ id ids 0 ++ id ids 0
    ++ u4 size ++ u2 0 ++ u2 0 ++ u2 (length c.fields)
    ++ fields

dump_of_shown_class : (ids : IdSize) (classes : List Class) (k : ℕ) (c : Class) → class_dump ids (map class_shown classes) (k, class_shown c) ≡ class_dump ids classes (k, c)
unfolding class_dump
dump_of_shown_class ids classes k c = ap₂ (class_bytes_with ids k c) (instance_size_in_shown_classes ids classes k) (field_entries_in_shown_classes ids classes c.fields)

dump_of_kind_in_shown_classes : (ids : IdSize) (classes : List Class) (x : ℕ) (kind : ObjKind) (words : List ℕ) → dump_of ids (map class_shown classes) x kind words ≡ dump_of ids classes x kind words
unfolding dump_of
dump_of_kind_in_shown_classes ids classes x (Instance k) words =
    ap (λ (slots : List Kind). u1 0x21 ++ id ids x ++ u4 1 ++ id ids (class_id k) ++ u4 (length (flat_map (value_bytes ids) (zip slots words))) ++ flat_map (value_bytes ids) (zip slots words)) (shown_classes_have_same_slots classes k)
dump_of_kind_in_shown_classes ids classes x (Array k) words = refl
dump_of_kind_in_shown_classes ids classes x (Prim kind) words = refl

objects_in_shown_classes : (ids : IdSize) (classes : List Class) (objects : List DumpedObject) → map (λ o. object_dump ids (map class_shown classes) o ∷ []) objects ≡ map (λ o. object_dump ids classes o ∷ []) objects
unfolding object_dump
objects_in_shown_classes ids classes [] = refl
objects_in_shown_classes ids classes (o ∷ objects) =
    ap₂ (λ (t : List ℕ) (l : List (List (List ℕ))). (t ∷ []) ∷ l) (dump_of_kind_in_shown_classes ids classes o.id o.kind o.words) (objects_in_shown_classes ids classes objects)

-- the sub-records of a register
abbrev records_of_register : IdSize → ℕ → List (List ℕ)
records_of_register ids x = cond (x == 0) [] (root_unknown ids x ∷ [])

null_registers_have_no_record : (ids : IdSize) (xs : List ℕ) → records_of_items (map (records_of_register ids) (filter (λ x. not (x == 0)) xs)) ≡ records_of_items (map (records_of_register ids) xs)
null_registers_have_no_record ids [] = refl
null_registers_have_no_record ids (x ∷ xs) = by_test (x == 0) refl (null_registers_have_no_record ids xs)
  where
    by_test : (b : Bool) → (x == 0) ≡ b → records_of_items (map (records_of_register ids) (filter (λ x. not (x == 0)) xs)) ≡ records_of_items (map (records_of_register ids) xs)
        → records_of_items (map (records_of_register ids) (cond (not b) (x ∷ filter (λ x. not (x == 0)) xs) (filter (λ x. not (x == 0)) xs))) ≡ cond b [] (root_unknown ids x ∷ []) ++ records_of_items (map (records_of_register ids) xs)
    by_test true null later = later
    by_test false other later = ap₂ (λ (b : Bool) (l : List (List ℕ)). cond b [] (root_unknown ids x ∷ []) ++ l) other later

-- four sections of sub-records
abbrev four_sections : List (List (List ℕ)) → List (List (List ℕ)) → List (List (List ℕ)) → List (List ℕ) → List (List ℕ)
four_sections a b c d = records_of_items a ++ (records_of_items b ++ (records_of_items c ++ (d ++ [])))

sub_records_of_shown_image : (ids : IdSize) (image : Image) → sub_records ids (image_shown image) ≡ sub_records ids image
unfolding sub_records items_of
sub_records_of_shown_image ids image =
    let all : List Class = map class_shown image.classes in
    let dumps : List (List (List ℕ)) = map (λ c. class_dump ids image.classes c ∷ []) (enumerate_from 0 image.classes) in
    let roots : List (List (List ℕ)) = map (λ c. root_sticky_class ids c.0 ∷ []) (enumerate_from 0 image.classes) in
    let objects : List (List (List ℕ)) = map (λ o. object_dump ids image.classes o ∷ []) image.objects in
    let shown_roots : List (List (List ℕ)) = map (λ c. root_sticky_class ids c.0 ∷ []) (enumerate_from 0 all) in
    let shown_objects : List (List (List ℕ)) = map (λ o. object_dump ids all o ∷ []) image.objects in
    let shown_registers : List (List ℕ) = records_of_items (map (records_of_register ids) (filter (λ x. not (x == 0)) image.registers)) in
    ap (λ (l : List (List (List ℕ))). four_sections l shown_roots shown_objects shown_registers)
    (numbered_shown_classes_mapped (λ c. class_dump ids all c ∷ []) (λ c. class_dump ids image.classes c ∷ []) (λ k c. ap (λ (t : List ℕ). t ∷ []) (dump_of_shown_class ids image.classes k c)) 0 image.classes)
    ∙ ap (λ (l : List (List (List ℕ))). four_sections dumps l shown_objects shown_registers)
    (numbered_shown_classes_mapped (λ c. root_sticky_class ids c.0 ∷ []) (λ c. root_sticky_class ids c.0 ∷ []) (λ k c. refl) 0 image.classes)
    ∙ ap (λ (l : List (List (List ℕ))). four_sections dumps roots l shown_registers) (objects_in_shown_classes ids image.classes image.objects)
    ∙ ap (λ (l : List (List ℕ)). four_sections dumps roots objects l) (null_registers_have_no_record ids image.registers)

pub dump_of_shown_image_is_same : (ids : IdSize) (image : Image) (time : ℕ) → dump_text ids (image_shown image) time ≡ dump_text ids image time
unfolding dump_text
dump_of_shown_image_is_same ids image time =
    ap₂ (λ (opening : List ℕ) (subs : List (List ℕ)). opening ++ concat (segment_records subs) ++ end_record) (opening_of_shown_image ids image time) (sub_records_of_shown_image ids image)
