-- How long the parts of a text are.
use Rattle.std.proofs.Common.{◌≡◌, ℕ, suc, ◌+◌, ◌*◌, List, [], ◌∷◌, ◌++◌, length, map, refl, sym, ap, ap₂, ◌∙◌, arith, length-append}
use Rattle.std.specs.Prelude.{flat_map, sum_by, zip}
use Rattle.std.specs.Option.{option_map_or}
use Rattle.std.specs.List.{concat, enumerate_from}
use Rattle.std.proofs.lemmas.List.FromFn.{length-enumerate_from}
use Rattle.std.proofs.lemmas.List.Sums.{sum_by-cons}
use Rattle.byteorder.specs.Numbers.{length-bytes_high_first}
use Rattle.heap_class.specs.declared.IdSize.{IdSize}
use Rattle.heap_class.specs.declared.Kind.{Kind}
use Rattle.heap_class.specs.declared.Field.{Field}
use Rattle.heap_class.specs.declared.ObjKind.{ObjKind}
use Rattle.heap_class.specs.declared.ObjKind.TheVariants.{Instance, Array, Prim}
use Rattle.heap_class.specs.Kinds.{id_bytes, width_of, type_code}
use Rattle.heap_class.specs.Classes.{Class, slots_of, name_table, name_id, instance_size}
use Rattle.hprof_text.specs.Image.{Image, IsKnown}
use Rattle.hprof_text.specs.Sizes.{names_size, opening_size, root_size, dump_size, utf8_size, records_size, text_size}
use Rattle.hprof_text.specs.Records.{opening_of}
use Rattle.hprof_text.specs.Segments.{segment_limit, size_of, segments_of, segment_sizes, segment_records, end_record, dump_text}
use Rattle.hprof_text.specs.Text.{id, u1, u4, record_of, header, utf8, load_class, trace, field_entry, class_dump, root, value_bytes, dump_of, class_id, opening_records, sub_records}
use Rattle.hprof_text.proofs.SegmentSizes.{sizes_of_all_segments}

-- a record is 9 bytes longer than its body
pub length-record_of : (tag : ℕ) (body : List ℕ) → length (record_of tag body) ≡ 9 + length body
unfolding record_of
length-record_of tag body = omega arith

-- ids, and values, have their widths
pub id_length : (ids : IdSize) (n : ℕ) → length (id ids n) ≡ id_bytes ids
id_length ids n = length-bytes_high_first (id_bytes ids) n

pub length-value : (ids : IdSize) (k : Kind) (n : ℕ) → length (value_bytes ids (k, n)) ≡ width_of ids k
unfolding value_bytes
length-value ids k n = length-bytes_high_first (width_of ids k) n

-- items of one length each
pub length-flat : {A : Type 0} (f : A → List ℕ) (n : ℕ) → ((x : A) → length (f x) ≡ n) → (xs : List A) → length (flat_map f xs) ≡ n * length xs
length-flat f n h [] = omega arith
length-flat f n h (x ∷ xs) = let t : length (flat_map f xs) ≡ n * length xs = length-flat f n h xs in let e : length (f x) ≡ n = h x in let s : n * suc (length xs) ≡ n + n * length xs = grind arith in omega (arith, length-append (f x) (flat_map f xs), t, e, s)

length-field : (ids : IdSize) (classes : List Class) (f : Field) → length (field_entry ids classes f) ≡ 1 + id_bytes ids
unfolding field_entry
length-field ids classes f = omega (arith, length-append (id ids (name_id classes f.name)) (u1 (type_code f.kind)), id_length ids (name_id classes f.name))

pub class_dump_length : (ids : IdSize) (classes : List Class) (c : ℕ × Class) → length (class_dump ids classes c) ≡ 15 + 7 * id_bytes ids + (1 + id_bytes ids) * length c.1.fields
unfolding class_dump
class_dump_length ids classes c =
    let f : length (flat_map (field_entry ids classes) c.1.fields) ≡ (1 + id_bytes ids) * length c.1.fields = length-flat (field_entry ids classes) (1 + id_bytes ids) (length-field ids classes) c.1.fields in
    let i : length (id ids (class_id c.0)) ≡ id_bytes ids = id_length ids (class_id c.0) in
    let s : length (id ids (option_map_or class_id c.1.sup 0)) ≡ id_bytes ids = id_length ids (option_map_or class_id c.1.sup 0) in
    let z : length (id ids 0) ≡ id_bytes ids = id_length ids 0 in
    simp length-append (omega (arith, f, i, s, z))

-- ---- objects

pub values_length : (ids : IdSize) (ks : List Kind) (ws : List ℕ) → length ws ≡ length ks → length (flat_map (value_bytes ids) (zip ks ws)) ≡ sum_by (width_of ids) ks
values_length ids [] [] h = refl
values_length ids [] (w ∷ ws) h = absurd (omega (arith, h))
values_length ids (k ∷ ks) [] h = absurd (omega (arith, h))
values_length ids (k ∷ ks) (w ∷ ws) h =
    length-append (value_bytes ids (k, w)) (flat_map (value_bytes ids) (zip ks ws))
    ∙ ap₂ (λ a b. a + b) (length-value ids k w) (values_length ids ks ws (omega (arith, h)))
    ∙ sym (sum_by-cons (width_of ids) k ks)

pub array_dump_length : (ids : IdSize) (classes : List Class) (x k : ℕ) (words : List ℕ) → length (dump_of ids classes x (Array k) words) ≡ dump_size ids classes (Array k) (length words)
unfolding dump_of dump_size
array_dump_length ids classes x k words =
    let v : length (flat_map (id ids) words) ≡ id_bytes ids * length words = length-flat (id ids) (id_bytes ids) (id_length ids) words in
    let i : length (id ids x) ≡ id_bytes ids = id_length ids x in
    let c : length (id ids (class_id k)) ≡ id_bytes ids = id_length ids (class_id k) in
    simp length-append (omega (arith, v, i, c))

-- an object has as many words as its kind has slots
pub dump_length : (ids : IdSize) (classes : List Class) (x : ℕ) (kind : ObjKind) (words : List ℕ) → IsKnown classes kind (length words) → length (dump_of ids classes x kind words) ≡ dump_size ids classes kind (length words)
unfolding dump_of dump_size instance_size
dump_length ids classes x (Instance k) words h =
    let v : length (flat_map (value_bytes ids) (zip (slots_of classes k) words)) ≡ sum_by (width_of ids) (slots_of classes k) = values_length ids (slots_of classes k) words h.1 in
    let i : length (id ids x) ≡ id_bytes ids = id_length ids x in
    let c : length (id ids (class_id k)) ≡ id_bytes ids = id_length ids (class_id k) in
    simp length-append (omega (arith, v, i, c))
dump_length ids classes x (Array k) words h = array_dump_length ids classes x k words
dump_length ids classes x (Prim kind) words h =
    let v : length (flat_map (λ w. value_bytes ids (kind, w)) words) ≡ width_of ids kind * length words = length-flat (λ w. value_bytes ids (kind, w)) (width_of ids kind) (length-value ids kind) words in
    let i : length (id ids x) ≡ id_bytes ids = id_length ids x in
    simp length-append (omega (arith, v, i))

pub root_length : (ids : IdSize) (tag x : ℕ) → length (root ids tag x) ≡ root_size ids
unfolding root
root_length ids tag x = omega (arith, length-append (u1 tag) (id ids x), id_length ids x)

-- ---- what stands before the segments

pub utf8_length : (ids : IdSize) (k : ℕ) (name : List ℕ) → length (utf8 ids (k, name)) ≡ 9 + id_bytes ids + length name
unfolding utf8
utf8_length ids k name =
    let r : length (record_of 0x01 (id ids k ++ name)) ≡ 9 + length (id ids k ++ name) = length-record_of 0x01 (id ids k ++ name) in
    omega (arith, r, length-append (id ids k) name, id_length ids k)

names_length : (ids : IdSize) (n : ℕ) (names : List (List ℕ)) → length (flat_map (utf8 ids) (enumerate_from n names)) ≡ names_size ids names
unfolding names_size
names_length ids n [] = refl
names_length ids n (m ∷ ms) =
    length-append (utf8 ids (n, m)) (flat_map (utf8 ids) (enumerate_from (n + 1) ms))
    ∙ ap₂ (λ a b. a + b) (utf8_length ids n m) (names_length ids (n + 1) ms)
    ∙ sym (sum_by-cons (utf8_size ids) m ms)

pub load_length : (ids : IdSize) (classes : List Class) (c : ℕ × Class) → length (load_class ids classes c) ≡ 17 + 2 * id_bytes ids
unfolding load_class
load_length ids classes c =
    let i : length (id ids (class_id c.0)) ≡ id_bytes ids = id_length ids (class_id c.0) in
    let n : length (id ids (name_id classes c.1.name)) ≡ id_bytes ids = id_length ids (name_id classes c.1.name) in
    length-record_of 0x02 (u4 (c.0 + 1) ++ id ids (class_id c.0) ++ u4 1 ++ id ids (name_id classes c.1.name)) ∙ simp length-append (omega (arith, i, n))

header_length : (ids : IdSize) (time : ℕ) → length (header ids time) ≡ 31
unfolding header
header_length ids time = refl

pub trace_length : length trace ≡ 21
unfolding trace record_of
trace_length = refl

pub opening_length : (ids : IdSize) (classes : List Class) (time : ℕ) → length (opening_of ids classes time) ≡ opening_size ids classes
unfolding opening_size
opening_length ids cs time =
    let n : length (flat_map (utf8 ids) (enumerate_from 1 (name_table cs))) ≡ names_size ids (name_table cs) = names_length ids 1 (name_table cs) in
    let l : length (flat_map (load_class ids cs) (enumerate_from 0 cs)) ≡ (17 + 2 * id_bytes ids) * length cs = length-flat (load_class ids cs) (17 + 2 * id_bytes ids) (load_length ids cs) (enumerate_from 0 cs) ∙ ap (λ k. (17 + 2 * id_bytes ids) * k) (length-enumerate_from 0 cs) in
    let h : length (header ids time) ≡ 31 = header_length ids time in
    let t : length trace ≡ 21 = trace_length in
    simp length-append (omega (arith, n, l, h, t))

-- ---- the whole text

records_length : (segments : List (List (List ℕ))) → length (concat (map (λ s. record_of 0x1c (concat s)) segments)) ≡ sum_by (λ n. 9 + n) (map size_of segments)
records_length [] = refl
records_length (s ∷ ss) =
    length-append (record_of 0x1c (concat s)) (concat (map (λ s. record_of 0x1c (concat s)) ss))
    ∙ ap₂ (λ a b. a + b) (length-record_of 0x1c (concat s)) (records_length ss)
    ∙ sym (sum_by-cons (λ n. 9 + n) (size_of s) (map size_of ss))

pub text_length : (ids : IdSize) (image : Image) (time : ℕ) → length (dump_text ids image time) ≡ text_size ids image
unfolding dump_text opening_records segment_records end_record text_size records_size
text_length ids image time =
    let subs : List (List ℕ) = sub_records ids image in
    let o : length (opening_of ids image.classes time) ≡ opening_size ids image.classes = opening_length ids image.classes time in
    let e : length (record_of 0x2c []) ≡ 9 = length-record_of 0x2c [] in
    let b : length (concat (map (λ s. record_of 0x1c (concat s)) (segments_of segment_limit subs))) ≡ sum_by (λ n. 9 + n) (segment_sizes segment_limit (map length subs))
    = records_length (segments_of segment_limit subs) ∙ ap (sum_by (λ n. 9 + n)) (sizes_of_all_segments segment_limit subs) in
    length-append (opening_of ids image.classes time ++ concat (map (λ s. record_of 0x1c (concat s)) (segments_of segment_limit subs))) (record_of 0x2c [])
    ∙ ap₂ (λ x y. x + y) (length-append (opening_of ids image.classes time) (concat (map (λ s. record_of 0x1c (concat s)) (segments_of segment_limit subs))) ∙ ap₂ (λ x y. x + y) o b) e
