-- What holds of the items of each section.
use Rattle.std.proofs.Common.{◌≡◌, ◌≢◌, ℕ, ◌+◌, ◌<◌, ◌≤◌, Bool, true, false, List, [], ◌∷◌, ◌++◌, length, map, drop, get_or, sym, ap, ◌∙◌, subst, arith, append_assoc, length-append, inl, inr}
use Rattle.std.specs.Prelude.{◌==◌, slice_get, Some, All, if◌then◌else◌, sum_by}
use Rattle.std.specs.List.{enumerate_from}
use Rattle.std.specs.Option.{option_map}
use Rattle.std.proofs.lemmas.List.{length-map, drop_all}
use Rattle.std.proofs.lemmas.List.FromFn.{length-enumerate_from}
use Rattle.std.proofs.lemmas.List.Sums.{sum_by-cons}
use Rattle.std.proofs.lemmas.List.Elements.{All-nil, All-cons, All-head, All-tail, All-append, All-drop, All-map}
use Rattle.std.proofs.lemmas.Bool.Decides.{eqb_tells}
use Rattle.std.proofs.lemmas.Option.{slice_get-map, slice_get-get_or}
use Rattle.heap_class.specs.declared.IdSize.{IdSize}
use Rattle.heap_class.specs.declared.ObjKind.{ObjKind}
use Rattle.heap_class.specs.declared.ObjKind.TheVariants.{Instance, Array, Prim}
use Rattle.heap_class.specs.Classes.{Class}
use Rattle.hprof_text.specs.Cursors.{from_item}
use Rattle.hprof_text.specs.declared.section.NumberedSection.{NumberedSection}
use Rattle.hprof_text.specs.declared.section.NumberedSection.TheVariants.{ClassDumps, ClassRoots, RegisterRoots}
use Rattle.hprof_text.specs.declared.section.Section.{Section}
use Rattle.hprof_text.specs.declared.section.Section.TheVariants.{Numbered, Objects}
use Rattle.hprof_text.specs.Image.{Image, DumpedObject, IsDumpable}
use Rattle.hprof_text.specs.Records.{class_at}
use Rattle.hprof_text.specs.Text.{class_dump, root_sticky_class, root_unknown, dump_of, object_dump, items_of, records_of_items, records_in, after, sections, sub_records, root, class_id}
use Rattle.hprof_text.proofs.Bounds.{class_size_small, id_small, dump_size_small}
use Rattle.hprof_text.proofs.Lengths.{class_dump_length, root_length, dump_length}
use Rattle.hprof_text.proofs.Loops.{item_of_numbered_class, drop_at_item_begins_with_it, all_hold_with_their_numbers}
use Rattle.hprof_text.proofs.Tables.{IsSmall, classes_small}

-- ---- how many there are

abbrev pub count_of : Image → Section → ℕ
count_of image (Numbered ClassDumps) = length image.classes
count_of image (Numbered ClassRoots) = length image.classes
count_of image Objects = length image.objects
count_of image (Numbered RegisterRoots) = length image.registers

numbered_class_items_counted : (f : ℕ × Class → List (List ℕ)) (classes : List Class) → length (map f (enumerate_from 0 classes)) ≡ length classes
numbered_class_items_counted f classes = length-map (enumerate_from 0 classes) f ∙ length-enumerate_from 0 classes

pub items_counted : (ids : IdSize) (image : Image) (s : Section) → length (items_of ids image s) ≡ count_of image s
unfolding items_of
items_counted ids image (Numbered ClassDumps) = numbered_class_items_counted (λ c. class_dump ids image.classes c ∷ []) image.classes
items_counted ids image (Numbered ClassRoots) = numbered_class_items_counted (λ c. root_sticky_class ids c.0 ∷ []) image.classes
items_counted ids image Objects = length-map image.objects (λ o. object_dump ids image.classes o ∷ [])
items_counted ids image (Numbered RegisterRoots) = length-map image.registers (λ x. if x == 0 then [] else root_unknown ids x ∷ [])

-- ---- each has at most one sub-record, which has bytes

abbrev pub HasBytes : List ℕ → Type 0
HasBytes x = 0 < length x

abbrev pub IsItem : List (List ℕ) → Type 0
IsItem [] = Unit {0}
IsItem (x ∷ []) = HasBytes x
IsItem (x ∷ y ∷ more) = ⊥

class_bytes : (ids : IdSize) (classes : List Class) (c : ℕ × Class) → HasBytes (class_dump ids classes c)
unfolding class_dump
class_bytes ids classes c = omega arith

root_bytes : (ids : IdSize) (tag x : ℕ) → HasBytes (root ids tag x)
unfolding root
root_bytes ids tag x = omega arith

object_bytes : (ids : IdSize) (classes : List Class) (x : ℕ) (kind : ObjKind) (words : List ℕ) → HasBytes (dump_of ids classes x kind words)
unfolding dump_of
object_bytes ids classes x (Instance k) words = omega arith
object_bytes ids classes x (Array k) words = omega arith
object_bytes ids classes x (Prim k) words = omega arith

register_item : (ids : IdSize) (x : ℕ) (b : Bool) → IsItem (if b then [] else root_unknown ids x ∷ [])
register_item ids x true = tt
register_item ids x false = root_bytes ids 0xff x

pub section_items_are_items : (ids : IdSize) (image : Image) (s : Section) → All IsItem (items_of ids image s)
unfolding items_of object_dump
section_items_are_items ids image (Numbered ClassDumps) = All-map IsItem (λ c. class_dump ids image.classes c ∷ []) (enumerate_from 0 image.classes) (λ k c l. class_bytes ids image.classes _)
section_items_are_items ids image (Numbered ClassRoots) = All-map IsItem (λ c. root_sticky_class ids c.0 ∷ []) (enumerate_from 0 image.classes) (λ k c l. root_bytes ids 0x05 _)
section_items_are_items ids image Objects = All-map IsItem (λ o. object_dump ids image.classes o ∷ []) image.objects (λ k o l. object_bytes ids image.classes _ _ _)
section_items_are_items ids image (Numbered RegisterRoots) = All-map IsItem (λ x. if x == 0 then [] else root_unknown ids x ∷ []) image.registers (λ k x l. register_item ids _ _)

-- ---- each is short

abbrev pub IsWithin : List ℕ → Type 0
IsWithin x = length x ≤ 16777201

single_record_within_limit : (x : List ℕ) → IsWithin x → All IsWithin (x ∷ [])
single_record_within_limit x h = All-cons IsWithin x [] h (All-nil IsWithin)

register_short : (ids : IdSize) (x : ℕ) (b : Bool) → All IsWithin (if b then [] else root_unknown ids x ∷ [])
register_short ids x true = All-nil IsWithin
register_short ids x false = single_record_within_limit (root_unknown ids x) (omega (arith, root_length ids 0xff x, id_small ids))

pub section_items_within_limits : (ids : IdSize) (image : Image) → IsDumpable image → (s : Section) → All (All IsWithin) (items_of ids image s)
unfolding items_of object_dump
section_items_within_limits ids image d (Numbered ClassDumps) =
    let f : ℕ × Class → List (List ℕ) = λ c. class_dump ids image.classes c ∷ [] in
    let n = length image.classes in
    All-map (All IsWithin) f (enumerate_from 0 image.classes)
    (all_hold_with_their_numbers (λ c. All IsWithin (f c)) (IsSmall n) n 0 image.classes (omega arith)
    (λ k c l s. single_record_within_limit (class_dump ids image.classes (k, c)) (omega (arith, class_dump_length ids image.classes (k, c), class_size_small ids (length c.fields) s.fields)))
    (classes_small image.classes d.classes))
section_items_within_limits ids image d (Numbered ClassRoots) =
    All-map (All IsWithin) (λ c. root_sticky_class ids c.0 ∷ []) (enumerate_from 0 image.classes) (λ k c l. single_record_within_limit (root_sticky_class ids _) (omega (arith, root_length ids 0x05 (class_id (get_or (enumerate_from 0 image.classes) k c).0), id_small ids)))
section_items_within_limits ids image d Objects =
    All-map (All IsWithin) (λ o. object_dump ids image.classes o ∷ []) image.objects
    (λ k o l.
    let x = get_or image.objects k o in
    let known = d.known k o l in
    single_record_within_limit (object_dump ids image.classes x) (omega (arith, dump_length ids image.classes x.id x.kind x.words known, dump_size_small ids image.classes d.classes x.kind (length x.words) known (d.small k o l))))
section_items_within_limits ids image d (Numbered RegisterRoots) = All-map (All IsWithin) (λ x. if x == 0 then [] else root_unknown ids x ∷ []) image.registers (λ k x l. register_short ids _ _)

-- ---- an item by its number, by what a view tells

-- item k of a section has this sub-record alone
abbrev pub HasOnly : IdSize → Image → NumberedSection → ℕ → List ℕ → Type 0
HasOnly ids image section k x = slice_get (items_of ids image (Numbered section)) k ≡ Some (x ∷ [])

-- or none
abbrev pub HasNone : IdSize → Image → NumberedSection → ℕ → Type 0
HasNone ids image section k = slice_get (items_of ids image (Numbered section)) k ≡ Some []

item_number_within_section_count : (ids : IdSize) (image : Image) (section same : NumberedSection) (k : ℕ) → section ≡ same → k < length (items_of ids image (Numbered section)) → k < count_of image (Numbered same)
item_number_within_section_count ids image section same k e h = let l = subst (λ s. k < length (items_of ids image (Numbered s))) e h in omega (arith, l, items_counted ids image (Numbered same))

pub class_dump_there : (ids : IdSize) (image : Image) (section : NumberedSection) (k : ℕ) → section ≡ ClassDumps → k < length (items_of ids image (Numbered section)) → HasOnly ids image section k (class_dump ids image.classes (k, class_at image.classes k))
unfolding items_of
class_dump_there ids image section k e h = ap (λ t. slice_get (items_of ids image (Numbered t)) k) e ∙ item_of_numbered_class (λ c. class_dump ids image.classes c ∷ []) image.classes k (item_number_within_section_count ids image section ClassDumps k e h)

pub class_root_there : (ids : IdSize) (image : Image) (section : NumberedSection) (k x : ℕ) → section ≡ ClassRoots → x ≡ class_id k → k < length (items_of ids image (Numbered section)) → HasOnly ids image section k (root ids 0x05 x)
unfolding items_of
class_root_there ids image section k x e i h =
    ap (λ t. slice_get (items_of ids image (Numbered t)) k) e ∙ item_of_numbered_class (λ c. root_sticky_class ids c.0 ∷ []) image.classes k (item_number_within_section_count ids image section ClassRoots k e h)
    ∙ ap (λ y. Some (root ids 0x05 y ∷ [])) (sym i)

register_there : (ids : IdSize) (image : Image) (section : NumberedSection) (k : ℕ) (xs : List ℕ) (b : Bool) → section ≡ RegisterRoots → xs ≡ image.registers → k < length (items_of ids image (Numbered section)) → (get_or xs k 0 == 0) ≡ b
    → slice_get (items_of ids image (Numbered section)) k ≡ Some (if b then [] else root_unknown ids (get_or xs k 0) ∷ [])
unfolding items_of
register_there ids image section k xs b e a h z =
    let f : ℕ → List (List ℕ) = λ x. if x == 0 then [] else root_unknown ids x ∷ [] in
    let l : k < length xs = omega (arith, item_number_within_section_count ids image section RegisterRoots k e h, ap length a) in
    ap (λ t. slice_get (items_of ids image (Numbered t)) k) e ∙ ap (λ rs. slice_get (map f rs) k) (sym a)
    ∙ slice_get-map f xs k ∙ ap (option_map f) (slice_get-get_or xs k 0 l)
    ∙ ap (λ c. Some (if c then [] else root_unknown ids (get_or xs k 0) ∷ [])) z

pub null_there : (ids : IdSize) (image : Image) (section : NumberedSection) (k : ℕ) (xs : List ℕ) → section ≡ RegisterRoots → xs ≡ image.registers → k < length (items_of ids image (Numbered section)) → get_or xs k 0 ≡ 0 → HasNone ids image section k
null_there ids image section k xs e a h z = register_there ids image section k xs true e a h (ap (λ x. x == 0) z)

pub register_root_there : (ids : IdSize) (image : Image) (section : NumberedSection) (k : ℕ) (xs : List ℕ) → section ≡ RegisterRoots → xs ≡ image.registers → k < length (items_of ids image (Numbered section)) → get_or xs k 0 ≢ 0 → HasOnly ids image section k (root_unknown ids (get_or xs k 0))
register_root_there ids image section k xs e a h z = register_there ids image section k xs false e a h (elim (eqb_tells (get_or xs k 0) 0) [ inl p ↦ absurd (z p.1) | inr p ↦ p.0 ])

pub object_item_is_its_dump : (ids : IdSize) (image : Image) (i : ℕ) (o : DumpedObject) → slice_get image.objects i ≡ Some o → slice_get (items_of ids image Objects) i ≡ Some (object_dump ids image.classes o ∷ [])
unfolding items_of
object_item_is_its_dump ids image i o e = slice_get-map (λ p. object_dump ids image.classes p ∷ []) image.objects i ∙ ap (option_map (λ p. object_dump ids image.classes p ∷ [])) e

-- ---- for all sections alike

pub section_from_item_onwards : (ids : IdSize) (image : Image) (s : Section) (n : ℕ) (item : List (List ℕ)) → slice_get (items_of ids image s) n ≡ Some item → from_item ids image s n ≡ item ++ from_item ids image s (n + 1)
section_from_item_onwards ids image s n item e =
    ap (λ l. records_of_items l ++ records_in ids image (after s)) (drop_at_item_begins_with_it (items_of ids image s) n item e)
    ∙ append_assoc item (records_of_items (drop (n + 1) (items_of ids image s))) (records_in ids image (after s))

pub section_past_items_goes_on : (ids : IdSize) (image : Image) (s : Section) (n : ℕ) → length (items_of ids image s) ≤ n → from_item ids image s n ≡ records_in ids image (after s)
section_past_items_goes_on ids image s n h = ap (λ l. records_of_items l ++ records_in ids image (after s)) (drop_all n (items_of ids image s) h)

-- what holds of the sub-records of each item
joined_items_keep_property : (P : List ℕ → Type 0) (items : List (List (List ℕ))) → All (All P) items → All P (records_of_items items)
joined_items_keep_property P [] h = All-nil P
joined_items_keep_property P (i ∷ is) h = All-append P i (records_of_items is) (All-head (All P) i is h) (joined_items_keep_property P is (All-tail (All P) i is h))

pub each_record_of_sections_holds : (P : List ℕ → Type 0) (ids : IdSize) (image : Image) → ((s : Section) → All (All P) (items_of ids image s)) → (several : List Section) → All P (records_in ids image several)
each_record_of_sections_holds P ids image h [] = All-nil P
each_record_of_sections_holds P ids image h (s ∷ several) = All-append P (records_of_items (items_of ids image s)) (records_in ids image several) (joined_items_keep_property P (items_of ids image s) (h s)) (each_record_of_sections_holds P ids image h several)

item_bytes : (item : List (List ℕ)) → IsItem item → All HasBytes item
item_bytes [] h = All-nil HasBytes
item_bytes (x ∷ []) h = All-cons HasBytes x [] h (All-nil HasBytes)
item_bytes (x ∷ y ∷ more) h = absurd h

section_records_have_bytes : (ids : IdSize) (image : Image) (s : Section) → All (All HasBytes) (items_of ids image s)
section_records_have_bytes ids image s k i l = item_bytes (get_or (items_of ids image s) k i) (section_items_are_items ids image s k i l)

pub records_from_item_have_bytes : (ids : IdSize) (image : Image) (s : Section) (n : ℕ) → All HasBytes (from_item ids image s n)
records_from_item_have_bytes ids image s n =
    All-append HasBytes (records_of_items (drop n (items_of ids image s))) (records_in ids image (after s))
    (joined_items_keep_property HasBytes (drop n (items_of ids image s)) (All-drop (All HasBytes) n (items_of ids image s) (section_records_have_bytes ids image s)))
    (each_record_of_sections_holds HasBytes ids image (section_records_have_bytes ids image) (after s))

pub sub_records_within_limit : (ids : IdSize) (image : Image) → IsDumpable image → All IsWithin (sub_records ids image)
unfolding sub_records
sub_records_within_limit ids image d = each_record_of_sections_holds IsWithin ids image (section_items_within_limits ids image d) sections

item_has_one_record_most : (item : List (List ℕ)) → IsItem item → length item ≤ 1
item_has_one_record_most [] h = omega arith
item_has_one_record_most (x ∷ []) h = omega arith
item_has_one_record_most (x ∷ y ∷ more) h = absurd h

joined_items_no_more_records : (items : List (List (List ℕ))) → All IsItem items → length (records_of_items items) ≤ length items
joined_items_no_more_records [] h = omega arith
joined_items_no_more_records (i ∷ is) h = omega (arith, length-append i (records_of_items is), item_has_one_record_most i (All-head IsItem i is h), joined_items_no_more_records is (All-tail IsItem i is h))

section_records_within_counts : (ids : IdSize) (image : Image) (several : List Section) → length (records_in ids image several) ≤ sum_by (count_of image) several
section_records_within_counts ids image [] = omega arith
section_records_within_counts ids image (s ∷ several) =
    omega (arith, sum_by-cons (count_of image) s several, length-append (records_of_items (items_of ids image s)) (records_in ids image several), joined_items_no_more_records (items_of ids image s) (section_items_are_items ids image s), items_counted ids image s, section_records_within_counts ids image several)

-- at most one for each class, its root, each object and each register
pub sub_records_within_counts : (ids : IdSize) (image : Image) → length (sub_records ids image) ≤ sum_by (count_of image) sections
unfolding sub_records
sub_records_within_counts ids image = section_records_within_counts ids image sections
