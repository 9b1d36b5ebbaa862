-- The dump of an image tells it.
use Rattle.std.proofs.Common.{◌≡◌, ℕ, ◌+◌, ◌^◌, ◌<◌, ◌≤◌, ◌==◌, ◌||◌, List, [], ◌++◌, length, map, append_assoc, Option, Some, Result, sym, ap, ◌∙◌, arith}
use Rattle.std.specs.Prelude.{flat_map, filter_map}
use Rattle.std.specs.List.{AllByRecursion, enumerate_from}
use Rattle.std.specs.Result.{result_ok}
use Rattle.std.proofs.lemmas.List.{append-nil}
use Rattle.std.proofs.lemmas.List.Elements.{recursion_from_All}
use Rattle.heap_class.specs.declared.IdSize.{IdSize}
use Rattle.heap_class.specs.Classes.{Class, name_table, name_id}
use Rattle.hprof_text.specs.Image.{Image, DumpedObject, IsDumpable}
use Rattle.hprof_text.specs.Text.{u4, id, class_id, sub_records}
use Rattle.hprof_text.specs.Segments.{AreSegments, segment_limit, segments_of, dump_text}
use Rattle.hprof_text.specs.Fits.{Utf8Fits, LoadClassFits, HoldsWhole, ShowsWhole}
use Rattle.hprof_reader.specs.declared.fault.Fault.{Fault}
use Rattle.hprof_reader.specs.declared.header.Header.{Header}
use Rattle.hprof_reader.specs.Images.{subs_of, AreRead}
use Rattle.hprof_reader.specs.Reading.{record_parts}
use Rattle.hprof_reader.specs.Records.{Told, record_text, FitsRecord}
use Rattle.hprof_reader.specs.SubParts.{id_at, four_at, sub_parts}
use Rattle.hprof_reader.specs.SubRecords.{Sub, ClassTold, root, class, instance, array, prim, sub_text, FitsSub}
use Rattle.hprof_reader.proofs.ReadHeaders.{header_reader}
use Rattle.hprof_reader.proofs.ReadKinds.{id_reader, four_byte_number_reader}
use Rattle.hprof_reader.proofs.ReadSubs.{sub_reader}
use Rattle.hprof_reader.proofs.WholeRecords.{record_reader}
use Rattle.hprof_image.specs.Items.{◌>>=◌, items_in, all_there}
use Rattle.hprof_image.specs.Parts.{Names, name_in, load_in, class_of, object_in, register_in}
use Rattle.hprof_image.specs.Images.{image_told, bodies, image_in, dump_told, class_shown, image_shown, shown}
use Rattle.hprof_image.proofs.ReadItems.{spelled_items_are_read, values_of_parts_are_all_there, segments_are_read_part_by_part}
use Rattle.hprof_image.proofs.FoundNames.{name_entries}
use Rattle.hprof_image.proofs.ToldRecords.{name_body, load_body, records_of, name_bodies_of_dump, class_bodies_of_dump, heap_bodies_of_dump, dump_text_is_that_of_records, records_of_dump_fit}
use Rattle.hprof_image.proofs.ToldClasses.{dumped_classes, class_entries, names_of, classes_are_dumped, classes_are_told}
use Rattle.hprof_image.proofs.ToldObjects.{IsDumpedObject, classes_in_subs, registers_in_subs, objects_in_subs}

-- ---- names

name_is_read : (ids : IdSize) (n : ℕ × List ℕ) → Utf8Fits ids n → name_in ids (name_body ids n) ≡ Some (n.0, n.1)
name_is_read ids n fits = ap (λ (r : Result (ℕ × List ℕ) Fault). result_ok r) ((id_reader ids).again n.0 n.1 fits.1)

load_regrouped : (a b c d : List ℕ) → a ++ b ++ c ++ d ≡ a ++ (b ++ (c ++ (d ++ [])))
load_regrouped a b c d = simp (append_assoc, append-nil)

load_is_read : (ids : IdSize) (classes : List Class) (c : ℕ × Class) → LoadClassFits ids classes c → load_in ids (load_body ids classes c) ≡ Some (class_id c.0, name_id classes c.1.name)
load_is_read ids classes c fits =
    let serial : List ℕ = u4 (c.0 + 1) in
    let own : List ℕ = id ids (class_id c.0) in
    let name : List ℕ = id ids (name_id classes c.1.name) in
    ap (load_in ids) (load_regrouped serial own (u4 1) name)
    ∙ ap (λ (r : Result (ℕ × List ℕ) Fault). result_ok r >>= λ s. result_ok (id_at ids s.1) >>= λ x. result_ok (four_at x.1) >>= λ t. result_ok (id_at ids t.1) >>= λ n. Some (x.0, n.0)) (four_byte_number_reader.again (c.0 + 1) (own ++ (u4 1 ++ (name ++ []))) fits.1)
    ∙ ap (λ (r : Result (ℕ × List ℕ) Fault). result_ok r >>= λ x. result_ok (four_at x.1) >>= λ t. result_ok (id_at ids t.1) >>= λ n. Some (x.0, n.0)) ((id_reader ids).again (class_id c.0) (u4 1 ++ (name ++ [])) fits.2)
    ∙ ap (λ (r : Result (ℕ × List ℕ) Fault). result_ok r >>= λ t. result_ok (id_at ids t.1) >>= λ n. Some (class_id c.0, n.0)) (four_byte_number_reader.again 1 (name ++ []) (omega arith))
    ∙ ap (λ (r : Result (ℕ × List ℕ) Fault). result_ok r >>= λ n. Some (class_id c.0, n.0)) ((id_reader ids).again (name_id classes c.1.name) [] fits.3)

names_are_read : (ids : IdSize) (image : Image) → HoldsWhole ids image 0 → all_there (map (name_in ids) (bodies (λ t. t == 0x01) (records_of ids image))) ≡ Some (name_entries image.classes)
names_are_read ids image holds =
    let numbered = enumerate_from 1 (name_table image.classes) in
    ap (λ (bs : List (List ℕ)). all_there (map (name_in ids) bs)) (name_bodies_of_dump ids image)
    ∙ values_of_parts_are_all_there (name_in ids) (name_body ids) (λ n. (n.0, n.1)) (Utf8Fits ids) (name_is_read ids) numbered (recursion_from_All (Utf8Fits ids) numbered holds.names)

loads_are_read : (ids : IdSize) (image : Image) → HoldsWhole ids image 0 → all_there (map (load_in ids) (bodies (λ t. t == 0x02) (records_of ids image))) ≡ Some (class_entries image.classes)
loads_are_read ids image holds =
    let numbered = enumerate_from 0 image.classes in
    ap (λ (bs : List (List ℕ)). all_there (map (load_in ids) bs)) (class_bodies_of_dump ids image)
    ∙ values_of_parts_are_all_there (load_in ids) (load_body ids image.classes) (λ c. (class_id c.0, name_id image.classes c.1.name)) (LoadClassFits ids image.classes) (load_is_read ids image.classes) numbered
    (recursion_from_All (LoadClassFits ids image.classes) numbered holds.loaded)

-- ---- sub-records

-- the image of these sub-records, of which these are those of classes
abbrev image_by : IdSize → Names → List ClassTold → List Sub → Option Image
image_by ids names told subs =
    all_there (map (class_of ids names told) told)
    >>= λ classes. all_there (filter_map (object_in ids told classes) subs)
    >>= λ objects. Some (record { classes = classes; registers = filter_map register_in subs; objects = objects })

image_of_subs_is_shown : (ids : IdSize) (image : Image) → IsDumpable image → ShowsWhole ids image → HoldsWhole ids image 0 → image_told ids (names_of image.classes) (subs_of ids image) ≡ Some (image_shown image)
unfolding image_told
image_of_subs_is_shown ids image dumpable shows holds =
    let names = names_of image.classes in
    let subs : List Sub = subs_of ids image in
    let told : List ClassTold = dumped_classes ids image.classes in
    let classes : List Class = map class_shown image.classes in
    let objects_dumped : AllByRecursion (IsDumpedObject ids image.classes) image.objects =
    recursion_from_All (IsDumpedObject ids image.classes) image.objects (λ k d within. record { known = dumpable.known k d within; words = shows.words k d within }) in
    ap (λ (cs : List ClassTold). image_by ids names cs subs) (classes_in_subs ids image)
    ∙ ap (λ (o : Option (List Class)). o >>= λ cs. all_there (filter_map (object_in ids told cs) subs) >>= λ objects. Some (record { classes = cs; registers = filter_map register_in subs; objects = objects }))
    (classes_are_told ids image.classes (classes_are_dumped ids image.classes dumpable.classes holds.classes))
    ∙ ap (λ (o : Option (List DumpedObject)). o >>= λ objects. Some (record { classes = classes; registers = filter_map register_in subs; objects = objects })) (objects_in_subs ids image objects_dumped)
    ∙ ap (λ (rs : List ℕ). Some (record { classes = classes; registers = rs; objects = image.objects })) (registers_in_subs ids image)

sub_text_has_bytes : (ids : IdSize) (s : Sub) → 1 ≤ length (sub_text ids s)
sub_text_has_bytes ids (root tag x more) = omega arith
sub_text_has_bytes ids (class c) = omega arith
sub_text_has_bytes ids (instance x trace k values) = omega arith
sub_text_has_bytes ids (array x trace count k elements) = omega arith
sub_text_has_bytes ids (prim x trace count kind elements) = omega arith

-- ---- records

image_of_records_is_shown : (ids : IdSize) (image : Image) → IsDumpable image → ShowsWhole ids image → HoldsWhole ids image 0 → AreRead ids image → AreSegments segment_limit (sub_records ids image) (segments_of segment_limit (sub_records ids image))
    → image_in ids (records_of ids image) ≡ Some (image_shown image)
unfolding image_in
image_of_records_is_shown ids image dumpable shows holds read cut =
    let records : List Told = records_of ids image in
    let segments : List (List (List ℕ)) = segments_of segment_limit (sub_records ids image) in
    let parts = segments_are_read_part_by_part (sub_text ids) (FitsSub ids) (sub_parts ids) (sub_reader ids) (sub_text_has_bytes ids) segments (subs_of ids image) (read.spelled ∙ sym cut.joined) read.fit in
    let parts_read : all_there (map (items_in (sub_parts ids)) (bodies (λ t. t == 0x0c || t == 0x1c) records)) ≡ Some parts.parts =
    ap (λ (bs : List (List ℕ)). all_there (map (items_in (sub_parts ids)) bs)) (heap_bodies_of_dump ids image) ∙ parts.read_as in
    ap (λ (o : Option (List (ℕ × List ℕ))). o >>= λ names. all_there (map (load_in ids) (bodies (λ t. t == 0x02) records)) >>= λ loads. all_there (map (items_in (sub_parts ids)) (bodies (λ t. t == 0x0c || t == 0x1c) records))
    >>= λ ss. image_told ids (record { names = names; loads = loads }) (flat_map (λ s. s) ss)) (names_are_read ids image holds)
    ∙ ap (λ (o : Option (List (ℕ × ℕ))). o >>= λ loads. all_there (map (items_in (sub_parts ids)) (bodies (λ t. t == 0x0c || t == 0x1c) records)) >>= λ ss. image_told ids (record { names = name_entries image.classes; loads = loads }) (flat_map (λ s. s) ss))
    (loads_are_read ids image holds)
    ∙ ap (λ (o : Option (List (List Sub))). o >>= λ ss. image_told ids (names_of image.classes) (flat_map (λ s. s) ss)) parts_read
    ∙ ap (image_told ids (names_of image.classes)) parts.joined
    ∙ image_of_subs_is_shown ids image dumpable shows holds

pub dump_tells_image : (ids : IdSize) (image : Image) (time : ℕ) → IsDumpable image → ShowsWhole ids image → HoldsWhole ids image 0 → AreRead ids image → AreSegments segment_limit (sub_records ids image) (segments_of segment_limit (sub_records ids image))
    → time < 2 ^ 64 → dump_told (dump_text ids image time) ≡ Some (shown ids time image)
unfolding dump_told
dump_tells_image ids image time dumpable shows holds read cut early =
    let h : Header = record { ids = ids; time = time } in
    let records : List Told = records_of ids image in
    ap dump_told (dump_text_is_that_of_records ids image time)
    ∙ ap (λ (r : Result (Header × List ℕ) Fault). result_ok r >>= λ header. items_in record_parts header.1 >>= λ rs. image_in header.0.ids rs >>= λ i. Some (record { header = header.0; image = i })) (header_reader.again h (flat_map record_text records) early)
    ∙ ap (λ (o : Option (List Told)). o >>= λ rs. image_in ids rs >>= λ i. Some (record { header = h; image = i })) (spelled_items_are_read record_text FitsRecord record_parts record_reader (λ r. omega arith) records (records_of_dump_fit ids image holds))
    ∙ ap (λ (o : Option Image). o >>= λ i. Some (record { header = h; image = i })) (image_of_records_is_shown ids image dumpable shows holds read cut)
