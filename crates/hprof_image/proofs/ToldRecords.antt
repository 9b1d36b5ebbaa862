-- The records of a dump are those that its text spells.
use Rattle.std.proofs.Common.{◌≡◌, ℕ, ◌+◌, ◌^◌, ◌<◌, ◌==◌, ◌||◌, Bool, true, false, List, [], ◌∷◌, ◌++◌, length, append_assoc, map, refl, sym, ap, ap₂, ◌∙◌, arith}
use Rattle.std.specs.Prelude.{flat_map}
use Rattle.std.specs.List.{AllByRecursion, concat, enumerate_from}
use Rattle.std.proofs.lemmas.List.{append-nil}
use Rattle.std.proofs.lemmas.List.Elements.{recursion_from_All}
use Rattle.heap_class.specs.declared.IdSize.{IdSize}
use Rattle.heap_class.specs.Classes.{Class, name_table, name_id}
use Rattle.hprof_records.specs.Heads.{u4, record_of}
use Rattle.hprof_text.specs.Image.{Image}
use Rattle.hprof_text.specs.Text.{id, class_id, header, utf8, load_class, trace, opening_records, sub_records}
use Rattle.hprof_text.specs.Segments.{segment_limit, size_of, segments_of, segment_records, end_record, dump_text}
use Rattle.hprof_text.specs.Fits.{FitsBytes, Utf8Fits, LoadClassFits, HoldsWhole}
use Rattle.hprof_text.proofs.Lengths.{length-record_of}
use Rattle.hprof_reader.specs.Records.{Told, record_text, FitsRecord}
use Rattle.hprof_image.specs.Images.{bodies}
use Rattle.hprof_image.proofs.ReadItems.{concat_of_texts}

-- a record with this tag and this body
abbrev pub tagged : ℕ → List ℕ → Told
tagged tag body = record { tag = tag; time = 0; body = body }

-- ---- records with one tag

bodies_of_passing_tag : {A : Type 0} (test : ℕ → Bool) (tag : ℕ) (body : A → List ℕ) (xs : List A) (more : List Told) → test tag ≡ true → bodies test (map (λ x. tagged tag (body x)) xs ++ more) ≡ map body xs ++ bodies test more
bodies_of_passing_tag test tag body [] more passes = refl
bodies_of_passing_tag test tag body (x ∷ xs) more passes = rw passes (ap (λ (l : List (List ℕ)). body x ∷ l) (bodies_of_passing_tag test tag body xs more passes))

bodies_of_other_tag : {A : Type 0} (test : ℕ → Bool) (tag : ℕ) (body : A → List ℕ) (xs : List A) (more : List Told) → test tag ≡ false → bodies test (map (λ x. tagged tag (body x)) xs ++ more) ≡ bodies test more
bodies_of_other_tag test tag body [] more fails = refl
bodies_of_other_tag test tag body (x ∷ xs) more fails = rw fails (bodies_of_other_tag test tag body xs more fails)

texts_of_one_tag : {A : Type 0} (tag : ℕ) (body : A → List ℕ) (xs : List A) (more : List Told) → flat_map record_text (map (λ x. tagged tag (body x)) xs ++ more) ≡ flat_map (λ x. record_of tag (body x)) xs ++ flat_map record_text more
unfolding record_of
texts_of_one_tag tag body [] more = refl
texts_of_one_tag tag body (x ∷ xs) more =
    ap (λ (l : List ℕ). record_text (tagged tag (body x)) ++ l) (texts_of_one_tag tag body xs more)
    ∙ sym (append_assoc (record_text (tagged tag (body x))) (flat_map (λ x. record_text (tagged tag (body x))) xs) (flat_map record_text more))

records_of_one_tag_fit : {A : Type 0} (tag : ℕ) (body : A → List ℕ) (P : A → Type 0) (xs : List A) (more : List Told) → tag < 256 → ((x : A) → P x → length (body x) < 2 ^ 32) → AllByRecursion P xs → AllByRecursion FitsRecord more
    → AllByRecursion FitsRecord (map (λ x. tagged tag (body x)) xs ++ more)
records_of_one_tag_fit tag body P [] more small short all others = others
records_of_one_tag_fit tag body P (x ∷ xs) more small short all others =
    (record { tag = omega (arith, small); time = omega arith; body = short x all.0 }, records_of_one_tag_fit tag body P xs more small short all.1 others)

-- ---- the records of a dump

-- the body of a UTF8 record
abbrev pub name_body : IdSize → ℕ × List ℕ → List ℕ
name_body ids n = id ids n.0 ++ n.1

-- the body of a LOAD CLASS record
abbrev pub load_body : IdSize → List Class → ℕ × Class → List ℕ
load_body ids classes c = u4 (c.0 + 1) ++ id ids (class_id c.0) ++ u4 1 ++ id ids (name_id classes c.1.name)

-- the body of the TRACE record
abbrev trace_body : List ℕ
trace_body = u4 1 ++ u4 0 ++ u4 0

abbrev end_part : List Told
end_part = map (λ (b : List ℕ). tagged 0x2c b) ([] ∷ []) ++ []

abbrev segment_part : IdSize → Image → List Told
segment_part ids image = map (λ s. tagged 0x1c (concat s)) (segments_of segment_limit (sub_records ids image)) ++ end_part

abbrev trace_part : IdSize → Image → List Told
trace_part ids image = map (λ (b : List ℕ). tagged 0x05 b) (trace_body ∷ []) ++ segment_part ids image

abbrev class_part : IdSize → Image → List Told
class_part ids image = map (λ c. tagged 0x02 (load_body ids image.classes c)) (enumerate_from 0 image.classes) ++ trace_part ids image

-- the records of the dump of an image: its names, its classes, a trace, its segments and the end
unfoldable pub records_of : IdSize → Image → List Told
records_of ids image = map (λ n. tagged 0x01 (name_body ids n)) (enumerate_from 1 (name_table image.classes)) ++ class_part ids image

-- ---- their bodies

abbrev is_name_tag : ℕ → Bool
is_name_tag t = t == 0x01

abbrev is_class_tag : ℕ → Bool
is_class_tag t = t == 0x02

abbrev is_heap_tag : ℕ → Bool
is_heap_tag t = t == 0x0c || t == 0x1c

-- those of two parts that pass no test
bodies_of_end : (test : ℕ → Bool) → test 0x2c ≡ false → bodies test end_part ≡ []
bodies_of_end test fails = bodies_of_other_tag test 0x2c (λ (b : List ℕ). b) ([] ∷ []) [] fails

bodies_of_trace_part : (ids : IdSize) (image : Image) (test : ℕ → Bool) → test 0x05 ≡ false → bodies test (trace_part ids image) ≡ bodies test (segment_part ids image)
bodies_of_trace_part ids image test fails = bodies_of_other_tag test 0x05 (λ (b : List ℕ). b) (trace_body ∷ []) (segment_part ids image) fails

bodies_of_skipped_segments : (ids : IdSize) (image : Image) (test : ℕ → Bool) → test 0x1c ≡ false → test 0x2c ≡ false → bodies test (segment_part ids image) ≡ []
bodies_of_skipped_segments ids image test fails ends = bodies_of_other_tag test 0x1c concat (segments_of segment_limit (sub_records ids image)) end_part fails ∙ bodies_of_end test ends

pub name_bodies_of_dump : (ids : IdSize) (image : Image) → bodies (λ t. t == 0x01) (records_of ids image) ≡ map (name_body ids) (enumerate_from 1 (name_table image.classes))
unfolding records_of
name_bodies_of_dump ids image =
    bodies_of_passing_tag is_name_tag 0x01 (name_body ids) (enumerate_from 1 (name_table image.classes)) (class_part ids image) refl
    ∙ ap (λ (l : List (List ℕ)). map (name_body ids) (enumerate_from 1 (name_table image.classes)) ++ l)
    (bodies_of_other_tag is_name_tag 0x02 (load_body ids image.classes) (enumerate_from 0 image.classes) (trace_part ids image) refl ∙ bodies_of_trace_part ids image is_name_tag refl ∙ bodies_of_skipped_segments ids image is_name_tag refl refl)
    ∙ append-nil (map (name_body ids) (enumerate_from 1 (name_table image.classes)))

pub class_bodies_of_dump : (ids : IdSize) (image : Image) → bodies (λ t. t == 0x02) (records_of ids image) ≡ map (load_body ids image.classes) (enumerate_from 0 image.classes)
unfolding records_of
class_bodies_of_dump ids image =
    bodies_of_other_tag is_class_tag 0x01 (name_body ids) (enumerate_from 1 (name_table image.classes)) (class_part ids image) refl
    ∙ bodies_of_passing_tag is_class_tag 0x02 (load_body ids image.classes) (enumerate_from 0 image.classes) (trace_part ids image) refl
    ∙ ap (λ (l : List (List ℕ)). map (load_body ids image.classes) (enumerate_from 0 image.classes) ++ l) (bodies_of_trace_part ids image is_class_tag refl ∙ bodies_of_skipped_segments ids image is_class_tag refl refl)
    ∙ append-nil (map (load_body ids image.classes) (enumerate_from 0 image.classes))

pub heap_bodies_of_dump : (ids : IdSize) (image : Image) → bodies (λ t. t == 0x0c || t == 0x1c) (records_of ids image) ≡ map concat (segments_of segment_limit (sub_records ids image))
unfolding records_of
heap_bodies_of_dump ids image =
    bodies_of_other_tag is_heap_tag 0x01 (name_body ids) (enumerate_from 1 (name_table image.classes)) (class_part ids image) refl
    ∙ bodies_of_other_tag is_heap_tag 0x02 (load_body ids image.classes) (enumerate_from 0 image.classes) (trace_part ids image) refl
    ∙ bodies_of_trace_part ids image is_heap_tag refl
    ∙ bodies_of_passing_tag is_heap_tag 0x1c concat (segments_of segment_limit (sub_records ids image)) end_part refl
    ∙ ap (λ (l : List (List ℕ)). map concat (segments_of segment_limit (sub_records ids image)) ++ l) (bodies_of_end is_heap_tag refl)
    ∙ append-nil (map concat (segments_of segment_limit (sub_records ids image)))

-- ---- their text

dump_regrouped : (h n l t s e : List ℕ) → (h ++ n ++ l ++ t) ++ s ++ e ≡ h ++ (n ++ (l ++ (t ++ (s ++ e))))
dump_regrouped h n l t s e = simp append_assoc

segment_texts : (segments : List (List (List ℕ))) → concat (map (λ s. record_of 0x1c (concat s)) segments) ≡ flat_map (λ s. record_of 0x1c (concat s)) segments
segment_texts segments = concat_of_texts (λ s. record_of 0x1c (concat s)) segments

pub dump_text_is_that_of_records : (ids : IdSize) (image : Image) (time : ℕ) → dump_text ids image time ≡ header ids time ++ flat_map record_text (records_of ids image)
unfolding dump_text opening_records segment_records end_record utf8 load_class trace records_of
dump_text_is_that_of_records ids image time =
    let numbered = enumerate_from 1 (name_table image.classes) in
    let classes = enumerate_from 0 image.classes in
    let segments = segments_of segment_limit (sub_records ids image) in
    let ns : List ℕ = flat_map (λ n. record_of 0x01 (name_body ids n)) numbered in
    let ls : List ℕ = flat_map (λ c. record_of 0x02 (load_body ids image.classes c)) classes in
    let ss : List ℕ = flat_map (λ s. record_of 0x1c (concat s)) segments in
    let end_text : flat_map record_text end_part ≡ record_of 0x2c [] = texts_of_one_tag 0x2c (λ (b : List ℕ). b) ([] ∷ []) [] ∙ append-nil (record_of 0x2c [] ++ []) ∙ append-nil (record_of 0x2c []) in
    let segment_text : flat_map record_text (segment_part ids image) ≡ ss ++ record_of 0x2c [] = texts_of_one_tag 0x1c concat segments end_part ∙ ap (λ (l : List ℕ). ss ++ l) end_text in
    let trace_text : flat_map record_text (trace_part ids image) ≡ record_of 0x05 trace_body ++ (ss ++ record_of 0x2c []) =
    texts_of_one_tag 0x05 (λ (b : List ℕ). b) (trace_body ∷ []) (segment_part ids image) ∙ ap₂ (λ (a b : List ℕ). a ++ b) (append-nil (record_of 0x05 trace_body)) segment_text in
    let class_text : flat_map record_text (class_part ids image) ≡ ls ++ (record_of 0x05 trace_body ++ (ss ++ record_of 0x2c [])) =
    texts_of_one_tag 0x02 (load_body ids image.classes) classes (trace_part ids image) ∙ ap (λ (l : List ℕ). ls ++ l) trace_text in
    ap (λ (s : List ℕ). (header ids time ++ ns ++ ls ++ record_of 0x05 trace_body) ++ s ++ record_of 0x2c []) (segment_texts segments)
    ∙ dump_regrouped (header ids time) ns ls (record_of 0x05 trace_body) ss (record_of 0x2c [])
    ∙ ap (λ (l : List ℕ). header ids time ++ l) (sym (texts_of_one_tag 0x01 (name_body ids) numbered (class_part ids image) ∙ ap (λ (l : List ℕ). ns ++ l) class_text))

-- ---- their numbers

name_body_is_short : (ids : IdSize) (n : ℕ × List ℕ) → Utf8Fits ids n → length (name_body ids n) < 2 ^ 32
unfolding utf8
name_body_is_short ids n fits = omega (arith, length-record_of 0x01 (name_body ids n), fits.0)

load_body_is_short : (ids : IdSize) (classes : List Class) (c : ℕ × Class) → LoadClassFits ids classes c → length (load_body ids classes c) < 2 ^ 32
unfolding load_class
load_body_is_short ids classes c fits = omega (arith, length-record_of 0x02 (load_body ids classes c), fits.0)

pub records_of_dump_fit : (ids : IdSize) (image : Image) → HoldsWhole ids image 0 → AllByRecursion FitsRecord (records_of ids image)
unfolding records_of
records_of_dump_fit ids image holds =
    let end_fits = records_of_one_tag_fit 0x2c (λ (b : List ℕ). b) (λ b. length b < 2 ^ 32) ([] ∷ []) [] (omega arith) (λ b short. short) (omega arith, tt) tt in
    let segments_fit = records_of_one_tag_fit 0x1c concat (λ s. FitsBytes 4 (size_of s)) (segments_of segment_limit (sub_records ids image)) end_part (omega arith) (λ s fits. omega (arith, fits)) (recursion_from_All _ (segments_of segment_limit (sub_records ids image)) holds.segments) end_fits in
    let trace_fits = records_of_one_tag_fit 0x05 (λ (b : List ℕ). b) (λ b. length b < 2 ^ 32) (trace_body ∷ []) (segment_part ids image) (omega arith) (λ b short. short) (omega arith, tt) segments_fit in
    let classes_fit = records_of_one_tag_fit 0x02 (load_body ids image.classes) (LoadClassFits ids image.classes) (enumerate_from 0 image.classes) (trace_part ids image) (omega arith) (load_body_is_short ids image.classes) (recursion_from_All _ (enumerate_from 0 image.classes) holds.loaded) trace_fits in
    records_of_one_tag_fit 0x01 (name_body ids) (Utf8Fits ids) (enumerate_from 1 (name_table image.classes)) (class_part ids image) (omega arith) (name_body_is_short ids) (recursion_from_All _ (enumerate_from 1 (name_table image.classes)) holds.names) classes_fit
