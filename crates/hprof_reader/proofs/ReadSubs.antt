-- Sub-records are read as they are spelled.
use Rattle.std.proofs.Common.{◌≡◌, ℕ, ◌*◌, ◌^◌, ◌<◌, true, eqb, List, ◌++◌, length, Option, Some, None, Result, Ok, Err, refl, sym, ap, subst, ◌∙◌, append_assoc, arith, inl, inr}
use Rattle.std.specs.Int.{w8}
use Rattle.std.proofs.lemmas.Bool.{eqb-true}
use Rattle.heap_class.specs.declared.IdSize.{IdSize}
use Rattle.heap_class.specs.declared.Kind.{Kind}
use Rattle.heap_class.specs.Kinds.{id_bytes, width_of, type_code}
use Rattle.hprof_text.specs.Text.{u1, u4, id}
use Rattle.hprof_text.specs.Fits.{FitsId}
use Rattle.hprof_reader.specs.declared.class_dumps.ClassHead.{ClassHead}
use Rattle.hprof_reader.specs.declared.fault.Fault.{Fault}
use Rattle.hprof_reader.specs.declared.fault.Fault.TheVariants as faults
use Rattle.hprof_reader.specs.Entries.{table_parts, fields_table_parts}
use Rattle.hprof_reader.specs.Kinds.{kind_parts}
use Rattle.hprof_reader.specs.Reading.{◌>>=◌, read_in_turn, made, number_at, taken_at}
use Rattle.hprof_reader.specs.SubRecords.{Sub, ClassTold, Entries, root, class, instance, array, prim, entries_text, head_text, class_text, sub_text, AreEntries, AreFields, FitsHead, FitsClass, FitsSub}
use Rattle.hprof_reader.specs.SubSizes.{root_size}
use Rattle.hprof_reader.specs.SubParts.{id_at, four_at, root_fields, made_root, root_parts, instance_fields, made_instance, instance_parts, array_fields, made_array, array_parts, prim_fields, made_prim, prim_parts, NineNumbers, class_numbers, made_head, class_head_parts, class_fields, made_class, class_parts, class_sub_parts, rootless_parts, tagged_parts, after_tag, sub_parts}
use Rattle.hprof_reader.proofs.Readers.{IsBytes, IsReader, bytes_reader, reader_of_two_in_turn, reader_that_makes_value, bound_result_has_its_source, made_value_has_its_source}
use Rattle.hprof_reader.proofs.ReadKinds.{branch_of_condition_taken, one_byte_number_reader, four_byte_number_reader, id_reader, kind_reader}
use Rattle.hprof_reader.proofs.ReadEntries.{table_reader, field_table_reader}
use Rattle.hprof_reader.proofs.WholeRecords.{four_texts_regrouped}

-- an identifier, and what a reader reads after it
id_then_reader : {B : Type 0} (ids : IdSize) (tb : ℕ → B → List ℕ) (fb : ℕ → B → Type 0) (rb : ℕ → List ℕ → Result (B × List ℕ) Fault) → ((n : ℕ) → IsReader (tb n) (fb n) (rb n))
    → IsReader (λ (x : ℕ × B). id ids x.0 ++ tb x.0 x.1) (λ x. FitsId ids x.0 × fb x.0 x.1) (read_in_turn (id_at ids) rb)
id_then_reader ids tb fb rb next = reader_of_two_in_turn (id ids) (FitsId ids) (id_at ids) tb fb rb (id_reader ids) (λ n _. next n)

-- a number of 4 bytes, and what a reader reads after it
four_byte_number_then_reader : {B : Type 0} (tb : ℕ → B → List ℕ) (fb : ℕ → B → Type 0) (rb : ℕ → List ℕ → Result (B × List ℕ) Fault) → ((n : ℕ) → IsReader (tb n) (fb n) (rb n))
    → IsReader (λ (x : ℕ × B). u4 x.0 ++ tb x.0 x.1) (λ x. (x.0 < 2 ^ 32) × fb x.0 x.1) (read_in_turn four_at rb)
four_byte_number_then_reader tb fb rb next = reader_of_two_in_turn u4 (λ n. n < 2 ^ 32) four_at tb fb rb four_byte_number_reader (λ n _. next n)

abbrev sub_record_read : Sub × List ℕ → Result (Sub × List ℕ) Fault
sub_record_read x = Ok x

-- what was taken from the front of these bytes is a sub-record that fits
abbrev IsSubRecordTaken : IdSize → List ℕ → Sub × List ℕ → Type 0
IsSubRecordTaken ids bytes x = (bytes ≡ sub_text ids x.0 ++ x.1) × IsBytes x.1 × FitsSub ids x.0

equal_read_sub_records : (x y : Sub × List ℕ) → sub_record_read x ≡ sub_record_read y → x ≡ y
equal_read_sub_records x y e = cc

-- ---- roots

root_reader : (ids : IdSize) (size : ℕ) → IsReader (λ (x : ℕ × List ℕ). id ids x.0 ++ x.1) (λ x. FitsId ids x.0 × (length x.1 ≡ size)) (root_fields ids size)
root_reader ids size = id_then_reader {B = List ℕ} ids (λ n b. b) (λ n b. length b ≡ size) (λ n. taken_at size) (λ n. bytes_reader size)

regrouped_3 : (t a v r : List ℕ) → t ++ ((a ++ v) ++ r) ≡ t ++ a ++ v ++ r
regrouped_3 t a v r = sym (append_assoc t (a ++ v) r) ∙ ap (λ (l : List ℕ). l ++ r) (sym (append_assoc t a v))

root_taken : (ids : IdSize) (tag size : ℕ) (bytes rest : List ℕ) (x : Sub × List ℕ) → tag < 2 ^ 8 → root_size ids tag ≡ Some size → IsBytes rest → bytes ≡ u1 tag ++ rest → root_parts ids tag size rest ≡ Ok x → IsSubRecordTaken ids bytes x
unfolding root_parts
root_taken ids tag size bytes rest x less is small begins e =
    let p = made_value_has_its_source (made_root tag) (root_fields ids size rest) x e in
    let u = (root_reader ids size).takes rest p.0 small p.1 in
    subst (IsSubRecordTaken ids bytes) (equal_read_sub_records (made_root tag p.0.0, p.0.1) x p.2)
    (begins ∙ ap (λ (r : List ℕ). u1 tag ++ r) u.0 ∙ regrouped_3 (u1 tag) (id ids p.0.0.0) p.0.0.1 p.0.1, u.1, (less, u.2.0, is ∙ ap (λ (n : ℕ). Some n) (sym u.2.1)))

root_again : (ids : IdSize) (tag x : ℕ) (more rest : List ℕ) → FitsSub ids (root tag x more) → after_tag ids tag ((id ids x ++ more) ++ rest) ≡ Ok (root tag x more, rest)
unfolding root_parts
root_again ids tag x more rest fits =
    ap (λ (o : Option ℕ). tagged_parts ids tag o ((id ids x ++ more) ++ rest)) fits.2 ∙ ap (made (made_root tag)) ((root_reader ids (length more)).again (x, more) rest (fits.1, refl))

-- ---- instances and arrays: four parts, and bytes

regrouped_6 : (t a b c d v r : List ℕ) → t ++ ((a ++ (b ++ (c ++ (d ++ v)))) ++ r) ≡ t ++ a ++ b ++ c ++ d ++ v ++ r
regrouped_6 t a b c d v r = simp append_assoc

abbrev instance_text : IdSize → ℕ × (ℕ × (ℕ × (ℕ × List ℕ))) → List ℕ
instance_text ids x = id ids x.0 ++ (u4 x.1.0 ++ (id ids x.1.1.0 ++ (u4 x.1.1.1.0 ++ x.1.1.1.1)))

abbrev InstanceNumbersFit : IdSize → ℕ × (ℕ × (ℕ × (ℕ × List ℕ))) → Type 0
InstanceNumbersFit ids x = FitsId ids x.0 × ((x.1.0 < 2 ^ 32) × (FitsId ids x.1.1.0 × ((x.1.1.1.0 < 2 ^ 32) × (length x.1.1.1.1 ≡ x.1.1.1.0))))

instance_reader : (ids : IdSize) → IsReader (instance_text ids) (InstanceNumbersFit ids) (instance_fields ids)
instance_reader ids =
    id_then_reader {B = ℕ × (ℕ × (ℕ × List ℕ))} ids (λ x p. u4 p.0 ++ (id ids p.1.0 ++ (u4 p.1.1.0 ++ p.1.1.1))) (λ x p. (p.0 < 2 ^ 32) × (FitsId ids p.1.0 × ((p.1.1.0 < 2 ^ 32) × (length p.1.1.1 ≡ p.1.1.0))))
    (λ x. read_in_turn four_at (λ trace. read_in_turn (id_at ids) (λ k. read_in_turn four_at (λ size. taken_at size))))
    (λ x. four_byte_number_then_reader {B = ℕ × (ℕ × List ℕ)} (λ t p. id ids p.0 ++ (u4 p.1.0 ++ p.1.1)) (λ t p. FitsId ids p.0 × ((p.1.0 < 2 ^ 32) × (length p.1.1 ≡ p.1.0))) (λ trace. read_in_turn (id_at ids) (λ k. read_in_turn four_at (λ size. taken_at size)))
    (λ t. id_then_reader {B = ℕ × List ℕ} ids (λ c p. u4 p.0 ++ p.1) (λ c p. (p.0 < 2 ^ 32) × (length p.1 ≡ p.0)) (λ k. read_in_turn four_at (λ size. taken_at size))
    (λ c. four_byte_number_then_reader {B = List ℕ} (λ n b. b) (λ n b. length b ≡ n) (λ size. taken_at size) (λ n. bytes_reader n))))

instance_taken : (ids : IdSize) (bytes rest : List ℕ) (x : Sub × List ℕ) → IsBytes rest → bytes ≡ u1 0x21 ++ rest → instance_parts ids rest ≡ Ok x → IsSubRecordTaken ids bytes x
unfolding instance_parts
instance_taken ids bytes rest x small begins e =
    let p = made_value_has_its_source made_instance (instance_fields ids rest) x e in
    let u = (instance_reader ids).takes rest p.0 small p.1 in
    let y = p.0.0 in
    let f = u.2 in
    subst (IsSubRecordTaken ids bytes) (equal_read_sub_records (made_instance y, p.0.1) x p.2) (
      begins ∙ ap (λ (r : List ℕ). u1 0x21 ++ r) u.0 ∙ regrouped_6 (u1 0x21) (id ids y.0) (u4 y.1.0) (id ids y.1.1.0) (u4 y.1.1.1.0) y.1.1.1.1 p.0.1
          ∙ ap (λ (n : ℕ). u1 0x21 ++ id ids y.0 ++ u4 y.1.0 ++ id ids y.1.1.0 ++ u4 n ++ y.1.1.1.1 ++ p.0.1) (sym f.1.1.1.1),
      u.1,
      (f.0, f.1.0, f.1.1.0, omega (arith, f.1.1.1.0, f.1.1.1.1)),
    )

instance_again : (ids : IdSize) (x trace c : ℕ) (values rest : List ℕ) → FitsSub ids (instance x trace c values)
    → instance_parts ids (instance_text ids (x, (trace, (c, (length values, values)))) ++ rest) ≡ Ok (instance x trace c values, rest)
unfolding instance_parts
instance_again ids x trace c values rest fits =
    ap (made made_instance) ((instance_reader ids).again (x, (trace, (c, (length values, values)))) rest (fits.0, (fits.1, (fits.2, (fits.3, refl)))))

abbrev array_text : IdSize → ℕ × (ℕ × (ℕ × (ℕ × List ℕ))) → List ℕ
array_text ids x = id ids x.0 ++ (u4 x.1.0 ++ (u4 x.1.1.0 ++ (id ids x.1.1.1.0 ++ x.1.1.1.1)))

abbrev ObjectArrayNumbersFit : IdSize → ℕ × (ℕ × (ℕ × (ℕ × List ℕ))) → Type 0
ObjectArrayNumbersFit ids x = FitsId ids x.0 × ((x.1.0 < 2 ^ 32) × ((x.1.1.0 < 2 ^ 32) × (FitsId ids x.1.1.1.0 × (length x.1.1.1.1 ≡ id_bytes ids * x.1.1.0))))

array_reader : (ids : IdSize) → IsReader (array_text ids) (ObjectArrayNumbersFit ids) (array_fields ids)
array_reader ids =
    id_then_reader {B = ℕ × (ℕ × (ℕ × List ℕ))} ids (λ x p. u4 p.0 ++ (u4 p.1.0 ++ (id ids p.1.1.0 ++ p.1.1.1))) (λ x p. (p.0 < 2 ^ 32) × ((p.1.0 < 2 ^ 32) × (FitsId ids p.1.1.0 × (length p.1.1.1 ≡ id_bytes ids * p.1.0))))
    (λ x. read_in_turn four_at (λ trace. read_in_turn four_at (λ count. read_in_turn (id_at ids) (λ k. taken_at (id_bytes ids * count)))))
    (λ x. four_byte_number_then_reader {B = ℕ × (ℕ × List ℕ)} (λ t p. u4 p.0 ++ (id ids p.1.0 ++ p.1.1)) (λ t p. (p.0 < 2 ^ 32) × (FitsId ids p.1.0 × (length p.1.1 ≡ id_bytes ids * p.0))) (λ trace. read_in_turn four_at (λ count. read_in_turn (id_at ids) (λ k. taken_at (id_bytes ids * count))))
    (λ t. four_byte_number_then_reader {B = ℕ × List ℕ} (λ n p. id ids p.0 ++ p.1) (λ n p. FitsId ids p.0 × (length p.1 ≡ id_bytes ids * n)) (λ count. read_in_turn (id_at ids) (λ k. taken_at (id_bytes ids * count)))
    (λ n. id_then_reader {B = List ℕ} ids (λ c b. b) (λ c b. length b ≡ id_bytes ids * n) (λ k. taken_at (id_bytes ids * n)) (λ c. bytes_reader (id_bytes ids * n)))))

array_taken : (ids : IdSize) (bytes rest : List ℕ) (x : Sub × List ℕ) → IsBytes rest → bytes ≡ u1 0x22 ++ rest → array_parts ids rest ≡ Ok x → IsSubRecordTaken ids bytes x
unfolding array_parts
array_taken ids bytes rest x small begins e =
    let p = made_value_has_its_source made_array (array_fields ids rest) x e in
    let u = (array_reader ids).takes rest p.0 small p.1 in
    let y = p.0.0 in
    let f = u.2 in
    subst (IsSubRecordTaken ids bytes) (equal_read_sub_records (made_array y, p.0.1) x p.2) (
      begins ∙ ap (λ (r : List ℕ). u1 0x22 ++ r) u.0 ∙ regrouped_6 (u1 0x22) (id ids y.0) (u4 y.1.0) (u4 y.1.1.0) (id ids y.1.1.1.0) y.1.1.1.1 p.0.1,
      u.1,
      (f.0, f.1.0, f.1.1.0, f.1.1.1.0, f.1.1.1.1),
    )

array_again : (ids : IdSize) (x trace count c : ℕ) (elements rest : List ℕ) → FitsSub ids (array x trace count c elements)
    → array_parts ids (array_text ids (x, (trace, (count, (c, elements)))) ++ rest) ≡ Ok (array x trace count c elements, rest)
unfolding array_parts
array_again ids x trace count c elements rest fits =
    ap (made made_array) ((array_reader ids).again (x, (trace, (count, (c, elements)))) rest (fits.0, (fits.1, (fits.2, (fits.3, fits.4)))))

abbrev prim_text : IdSize → ℕ × (ℕ × (ℕ × (Kind × List ℕ))) → List ℕ
prim_text ids x = id ids x.0 ++ (u4 x.1.0 ++ (u4 x.1.1.0 ++ (u1 (type_code x.1.1.1.0) ++ x.1.1.1.1)))

abbrev PrimitiveArrayNumbersFit : IdSize → ℕ × (ℕ × (ℕ × (Kind × List ℕ))) → Type 0
PrimitiveArrayNumbersFit ids x = FitsId ids x.0 × ((x.1.0 < 2 ^ 32) × ((x.1.1.0 < 2 ^ 32) × (Unit {0} × (length x.1.1.1.1 ≡ width_of ids x.1.1.1.0 * x.1.1.0))))

prim_reader : (ids : IdSize) → IsReader (prim_text ids) (PrimitiveArrayNumbersFit ids) (prim_fields ids)
prim_reader ids =
    id_then_reader {B = ℕ × (ℕ × (Kind × List ℕ))} ids (λ x p. u4 p.0 ++ (u4 p.1.0 ++ (u1 (type_code p.1.1.0) ++ p.1.1.1))) (λ x p. (p.0 < 2 ^ 32) × ((p.1.0 < 2 ^ 32) × (Unit {0} × (length p.1.1.1 ≡ width_of ids p.1.1.0 * p.1.0))))
    (λ x. read_in_turn four_at (λ trace. read_in_turn four_at (λ count. read_in_turn kind_parts (λ kind. taken_at (width_of ids kind * count)))))
    (λ x. four_byte_number_then_reader {B = ℕ × (Kind × List ℕ)} (λ t p. u4 p.0 ++ (u1 (type_code p.1.0) ++ p.1.1)) (λ t p. (p.0 < 2 ^ 32) × (Unit {0} × (length p.1.1 ≡ width_of ids p.1.0 * p.0))) (λ trace. read_in_turn four_at (λ count. read_in_turn kind_parts (λ kind. taken_at (width_of ids kind * count))))
    (λ t. four_byte_number_then_reader {B = Kind × List ℕ} (λ n p. u1 (type_code p.0) ++ p.1) (λ n p. Unit {0} × (length p.1 ≡ width_of ids p.0 * n)) (λ count. read_in_turn kind_parts (λ kind. taken_at (width_of ids kind * count)))
    (λ n. reader_of_two_in_turn {A = Kind} {B = List ℕ} (λ k. u1 (type_code k)) (λ k. Unit {0}) kind_parts (λ k b. b) (λ k b. length b ≡ width_of ids k * n) (λ kind. taken_at (width_of ids kind * n)) kind_reader (λ k _. bytes_reader (width_of ids k * n)))))

prim_taken : (ids : IdSize) (bytes rest : List ℕ) (x : Sub × List ℕ) → IsBytes rest → bytes ≡ u1 0x23 ++ rest → prim_parts ids rest ≡ Ok x → IsSubRecordTaken ids bytes x
unfolding prim_parts
prim_taken ids bytes rest x small begins e =
    let p = made_value_has_its_source made_prim (prim_fields ids rest) x e in
    let u = (prim_reader ids).takes rest p.0 small p.1 in
    let y = p.0.0 in
    let f = u.2 in
    subst (IsSubRecordTaken ids bytes) (equal_read_sub_records (made_prim y, p.0.1) x p.2) (
      begins ∙ ap (λ (r : List ℕ). u1 0x23 ++ r) u.0 ∙ regrouped_6 (u1 0x23) (id ids y.0) (u4 y.1.0) (u4 y.1.1.0) (u1 (type_code y.1.1.1.0)) y.1.1.1.1 p.0.1,
      u.1,
      (f.0, f.1.0, f.1.1.0, f.1.1.1.1),
    )

prim_again : (ids : IdSize) (x trace count : ℕ) (kind : Kind) (elements rest : List ℕ) → FitsSub ids (prim x trace count kind elements)
    → prim_parts ids (prim_text ids (x, (trace, (count, (kind, elements)))) ++ rest) ≡ Ok (prim x trace count kind elements, rest)
unfolding prim_parts
prim_again ids x trace count kind elements rest fits =
    ap (made made_prim) ((prim_reader ids).again (x, (trace, (count, (kind, elements)))) rest (fits.0, (fits.1, (fits.2, (tt, fits.3)))))

-- ---- classes

abbrev numbers_text : IdSize → NineNumbers → List ℕ
numbers_text ids x =
    id ids x.0 ++ (u4 x.1.0 ++ (id ids x.1.1.0 ++ (id ids x.1.1.1.0 ++ (id ids x.1.1.1.1.0 ++ (id ids x.1.1.1.1.1.0 ++ (id ids x.1.1.1.1.1.1.0 ++ (id ids x.1.1.1.1.1.1.1.0 ++ u4 x.1.1.1.1.1.1.1.1)))))))

abbrev NineNumbersFit : IdSize → NineNumbers → Type 0
NineNumbersFit ids x =
    FitsId ids x.0 × ((x.1.0 < 2 ^ 32) × (FitsId ids x.1.1.0 × (FitsId ids x.1.1.1.0 × (FitsId ids x.1.1.1.1.0 × (FitsId ids x.1.1.1.1.1.0 × (FitsId ids x.1.1.1.1.1.1.0 × (FitsId ids x.1.1.1.1.1.1.1.0 × (x.1.1.1.1.1.1.1.1 < 2 ^ 32))))))))

-- ids, and then a number of 4 bytes
abbrev IdAndNumber : Type 0
IdAndNumber = ℕ × ℕ

one_id_and_number_reader : (ids : IdSize) → IsReader (λ (x : IdAndNumber). id ids x.0 ++ u4 x.1) (λ x. FitsId ids x.0 × (x.1 < 2 ^ 32)) (read_in_turn (id_at ids) (λ h. four_at))
one_id_and_number_reader ids = id_then_reader {B = ℕ} ids (λ h n. u4 n) (λ h n. n < 2 ^ 32) (λ h. four_at) (λ h. four_byte_number_reader)

two_ids_and_number_reader : (ids : IdSize) → IsReader (λ (x : ℕ × IdAndNumber). id ids x.0 ++ (id ids x.1.0 ++ u4 x.1.1)) (λ x. FitsId ids x.0 × (FitsId ids x.1.0 × (x.1.1 < 2 ^ 32))) (read_in_turn (id_at ids) (λ g. read_in_turn (id_at ids) (λ h. four_at)))
two_ids_and_number_reader ids = id_then_reader {B = IdAndNumber} ids (λ g x. id ids x.0 ++ u4 x.1) (λ g x. FitsId ids x.0 × (x.1 < 2 ^ 32)) (λ g. read_in_turn (id_at ids) (λ h. four_at)) (λ g. one_id_and_number_reader ids)

three_ids_and_number_reader : (ids : IdSize) → IsReader (λ (x : ℕ × (ℕ × IdAndNumber)). id ids x.0 ++ (id ids x.1.0 ++ (id ids x.1.1.0 ++ u4 x.1.1.1))) (λ x. FitsId ids x.0 × (FitsId ids x.1.0 × (FitsId ids x.1.1.0 × (x.1.1.1 < 2 ^ 32))))
    (read_in_turn (id_at ids) (λ f. read_in_turn (id_at ids) (λ g. read_in_turn (id_at ids) (λ h. four_at))))
three_ids_and_number_reader ids = id_then_reader {B = ℕ × IdAndNumber} ids (λ f x. id ids x.0 ++ (id ids x.1.0 ++ u4 x.1.1)) (λ f x. FitsId ids x.0 × (FitsId ids x.1.0 × (x.1.1 < 2 ^ 32))) (λ f. read_in_turn (id_at ids) (λ g. read_in_turn (id_at ids) (λ h. four_at))) (λ f. two_ids_and_number_reader ids)

four_ids_and_number_reader : (ids : IdSize) → IsReader (λ (x : ℕ × (ℕ × (ℕ × IdAndNumber))). id ids x.0 ++ (id ids x.1.0 ++ (id ids x.1.1.0 ++ (id ids x.1.1.1.0 ++ u4 x.1.1.1.1)))) (λ x. FitsId ids x.0 × (FitsId ids x.1.0 × (FitsId ids x.1.1.0 × (FitsId ids x.1.1.1.0 × (x.1.1.1.1 < 2 ^ 32)))))
    (read_in_turn (id_at ids) (λ e. read_in_turn (id_at ids) (λ f. read_in_turn (id_at ids) (λ g. read_in_turn (id_at ids) (λ h. four_at)))))
four_ids_and_number_reader ids = id_then_reader {B = ℕ × (ℕ × IdAndNumber)} ids (λ e x. id ids x.0 ++ (id ids x.1.0 ++ (id ids x.1.1.0 ++ u4 x.1.1.1))) (λ e x. FitsId ids x.0 × (FitsId ids x.1.0 × (FitsId ids x.1.1.0 × (x.1.1.1 < 2 ^ 32)))) (λ e. read_in_turn (id_at ids) (λ f. read_in_turn (id_at ids) (λ g. read_in_turn (id_at ids) (λ h. four_at)))) (λ e. three_ids_and_number_reader ids)

five_ids_and_number_reader : (ids : IdSize) → IsReader (λ (x : ℕ × (ℕ × (ℕ × (ℕ × IdAndNumber)))). id ids x.0 ++ (id ids x.1.0 ++ (id ids x.1.1.0 ++ (id ids x.1.1.1.0 ++ (id ids x.1.1.1.1.0 ++ u4 x.1.1.1.1.1)))))
    (λ x. FitsId ids x.0 × (FitsId ids x.1.0 × (FitsId ids x.1.1.0 × (FitsId ids x.1.1.1.0 × (FitsId ids x.1.1.1.1.0 × (x.1.1.1.1.1 < 2 ^ 32))))))
    (read_in_turn (id_at ids) (λ d. read_in_turn (id_at ids) (λ e. read_in_turn (id_at ids) (λ f. read_in_turn (id_at ids) (λ g. read_in_turn (id_at ids) (λ h. four_at))))))
five_ids_and_number_reader ids =
    id_then_reader {B = ℕ × (ℕ × (ℕ × IdAndNumber))} ids (λ d x. id ids x.0 ++ (id ids x.1.0 ++ (id ids x.1.1.0 ++ (id ids x.1.1.1.0 ++ u4 x.1.1.1.1)))) (λ d x. FitsId ids x.0 × (FitsId ids x.1.0 × (FitsId ids x.1.1.0 × (FitsId ids x.1.1.1.0 × (x.1.1.1.1 < 2 ^ 32)))))
    (λ d. read_in_turn (id_at ids) (λ e. read_in_turn (id_at ids) (λ f. read_in_turn (id_at ids) (λ g. read_in_turn (id_at ids) (λ h. four_at))))) (λ d. four_ids_and_number_reader ids)

six_ids_and_number_reader : (ids : IdSize) → IsReader (λ (x : ℕ × (ℕ × (ℕ × (ℕ × (ℕ × IdAndNumber))))). id ids x.0 ++ (id ids x.1.0 ++ (id ids x.1.1.0 ++ (id ids x.1.1.1.0 ++ (id ids x.1.1.1.1.0 ++ (id ids x.1.1.1.1.1.0 ++ u4 x.1.1.1.1.1.1))))))
    (λ x. FitsId ids x.0 × (FitsId ids x.1.0 × (FitsId ids x.1.1.0 × (FitsId ids x.1.1.1.0 × (FitsId ids x.1.1.1.1.0 × (FitsId ids x.1.1.1.1.1.0 × (x.1.1.1.1.1.1 < 2 ^ 32)))))))
    (read_in_turn (id_at ids) (λ c. read_in_turn (id_at ids) (λ d. read_in_turn (id_at ids) (λ e. read_in_turn (id_at ids) (λ f. read_in_turn (id_at ids) (λ g. read_in_turn (id_at ids) (λ h. four_at)))))))
six_ids_and_number_reader ids =
    id_then_reader {B = ℕ × (ℕ × (ℕ × (ℕ × IdAndNumber)))} ids (λ c x. id ids x.0 ++ (id ids x.1.0 ++ (id ids x.1.1.0 ++ (id ids x.1.1.1.0 ++ (id ids x.1.1.1.1.0 ++ u4 x.1.1.1.1.1)))))
    (λ c x. FitsId ids x.0 × (FitsId ids x.1.0 × (FitsId ids x.1.1.0 × (FitsId ids x.1.1.1.0 × (FitsId ids x.1.1.1.1.0 × (x.1.1.1.1.1 < 2 ^ 32))))))
    (λ c. read_in_turn (id_at ids) (λ d. read_in_turn (id_at ids) (λ e. read_in_turn (id_at ids) (λ f. read_in_turn (id_at ids) (λ g. read_in_turn (id_at ids) (λ h. four_at)))))) (λ c. five_ids_and_number_reader ids)

numbers_reader : (ids : IdSize) → IsReader (numbers_text ids) (NineNumbersFit ids) (class_numbers ids)
numbers_reader ids =
    let last : ℕ × (ℕ × (ℕ × (ℕ × (ℕ × IdAndNumber)))) → List ℕ = λ x. id ids x.0 ++ (id ids x.1.0 ++ (id ids x.1.1.0 ++ (id ids x.1.1.1.0 ++ (id ids x.1.1.1.1.0 ++ (id ids x.1.1.1.1.1.0 ++ u4 x.1.1.1.1.1.1))))) in
    let fits : ℕ × (ℕ × (ℕ × (ℕ × (ℕ × IdAndNumber)))) → Type 0 = λ x. FitsId ids x.0 × (FitsId ids x.1.0 × (FitsId ids x.1.1.0 × (FitsId ids x.1.1.1.0 × (FitsId ids x.1.1.1.1.0 × (FitsId ids x.1.1.1.1.1.0 × (x.1.1.1.1.1.1 < 2 ^ 32)))))) in
    let read = read_in_turn (id_at ids) (λ c. read_in_turn (id_at ids) (λ d. read_in_turn (id_at ids) (λ e. read_in_turn (id_at ids) (λ f. read_in_turn (id_at ids) (λ g. read_in_turn (id_at ids) (λ h. four_at)))))) in
    id_then_reader {B = ℕ × (ℕ × (ℕ × (ℕ × (ℕ × (ℕ × IdAndNumber)))))} ids (λ a x. u4 x.0 ++ last x.1) (λ a x. (x.0 < 2 ^ 32) × fits x.1) (λ a. read_in_turn four_at (λ b. read)) (λ a. four_byte_number_then_reader {B = ℕ × (ℕ × (ℕ × (ℕ × (ℕ × IdAndNumber))))} (λ b x. last x) (λ b x. fits x) (λ b. read) (λ b. six_ids_and_number_reader ids))

regrouped_9 : (a b c d e f g h i : List ℕ) → a ++ (b ++ (c ++ (d ++ (e ++ (f ++ (g ++ (h ++ i))))))) ≡ a ++ b ++ c ++ d ++ e ++ f ++ g ++ h ++ i
regrouped_9 a b c d e f g h i = simp append_assoc

head_reader : (ids : IdSize) → IsReader (head_text ids) (FitsHead ids) (class_head_parts ids)
unfolding class_head_parts
head_reader ids =
    reader_that_makes_value (numbers_text ids) (NineNumbersFit ids) (class_numbers ids) made_head (head_text ids) (FitsHead ids) (numbers_reader ids)
    (record {
      spelled = λ x fits. (
        regrouped_9 (id ids x.0) (u4 x.1.0) (id ids x.1.1.0) (id ids x.1.1.1.0) (id ids x.1.1.1.1.0) (id ids x.1.1.1.1.1.0) (id ids x.1.1.1.1.1.1.0) (id ids x.1.1.1.1.1.1.1.0) (u4 x.1.1.1.1.1.1.1.1),
        record { id = fits.0; trace = fits.1.0; super_id = fits.1.1.0; loader = fits.1.1.1.0; signers = fits.1.1.1.1.0; domain = fits.1.1.1.1.1.0; reserved = fits.1.1.1.1.1.1.0; also_reserved = fits.1.1.1.1.1.1.1.0; size = fits.1.1.1.1.1.1.1.1 },
      );
      each = λ h fits. (
        (h.id, (h.trace, (h.super_id, (h.loader, (h.signers, (h.domain, (h.reserved, (h.also_reserved, h.size)))))))),
        (fits.id, (fits.trace, (fits.super_id, (fits.loader, (fits.signers, (fits.domain, (fits.reserved, (fits.also_reserved, fits.size)))))))),
        refl,
        sym (regrouped_9 (id ids h.id) (u4 h.trace) (id ids h.super_id) (id ids h.loader) (id ids h.signers) (id ids h.domain) (id ids h.reserved) (id ids h.also_reserved) (u4 h.size)),
      );
    })

abbrev class_pair_text : IdSize → ClassHead × (Entries × (Entries × Entries)) → List ℕ
class_pair_text ids x = head_text ids x.0 ++ (entries_text x.1.0 ++ (entries_text x.1.1.0 ++ entries_text x.1.1.1))

abbrev ClassHeadAndTablesFit : IdSize → ClassHead × (Entries × (Entries × Entries)) → Type 0
ClassHeadAndTablesFit ids x = FitsHead ids x.0 × (AreEntries ids 2 x.1.0 × (AreEntries ids (id_bytes ids) x.1.1.0 × AreFields ids x.1.1.1))

class_pair_reader : (ids : IdSize) → IsReader (class_pair_text ids) (ClassHeadAndTablesFit ids) (class_fields ids)
class_pair_reader ids =
    reader_of_two_in_turn {B = Entries × (Entries × Entries)} (head_text ids) (FitsHead ids) (class_head_parts ids) (λ h x. entries_text x.0 ++ (entries_text x.1.0 ++ entries_text x.1.1)) (λ h x. AreEntries ids 2 x.0 × (AreEntries ids (id_bytes ids) x.1.0 × AreFields ids x.1.1))
    (λ head. read_in_turn (table_parts ids 2) (λ constants. read_in_turn (table_parts ids (id_bytes ids)) (λ statics. fields_table_parts ids))) (head_reader ids)
    (λ h _. reader_of_two_in_turn {B = Entries × Entries} entries_text (AreEntries ids 2) (table_parts ids 2) (λ c x. entries_text x.0 ++ entries_text x.1) (λ c x. AreEntries ids (id_bytes ids) x.0 × AreFields ids x.1)
    (λ constants. read_in_turn (table_parts ids (id_bytes ids)) (λ statics. fields_table_parts ids)) (table_reader ids 2)
    (λ c _. reader_of_two_in_turn {B = Entries} entries_text (AreEntries ids (id_bytes ids)) (table_parts ids (id_bytes ids)) (λ s x. entries_text x) (λ s x. AreFields ids x) (λ statics. fields_table_parts ids) (table_reader ids (id_bytes ids)) (λ s _. field_table_reader ids)))

class_reader : (ids : IdSize) → IsReader (class_text ids) (FitsClass ids) (class_parts ids)
unfolding class_parts
class_reader ids =
    reader_that_makes_value (class_pair_text ids) (ClassHeadAndTablesFit ids) (class_fields ids) made_class (class_text ids) (FitsClass ids) (class_pair_reader ids)
    (record {
      spelled = λ x fits. (four_texts_regrouped (head_text ids x.0) (entries_text x.1.0) (entries_text x.1.1.0) (entries_text x.1.1.1), record { head = fits.0; constants = fits.1.0; statics = fits.1.1.0; fields = fits.1.1.1 });
      each = λ c fits. ((c.head, (c.constants, (c.statics, c.fields))), (fits.head, (fits.constants, (fits.statics, fits.fields))), refl, sym (four_texts_regrouped (head_text ids c.head) (entries_text c.constants) (entries_text c.statics) (entries_text c.fields)));
    })

class_taken : (ids : IdSize) (bytes rest : List ℕ) (x : Sub × List ℕ) → IsBytes rest → bytes ≡ u1 0x20 ++ rest → class_sub_parts ids rest ≡ Ok x → IsSubRecordTaken ids bytes x
unfolding class_sub_parts
class_taken ids bytes rest x small begins e =
    let p = made_value_has_its_source class (class_parts ids rest) x e in
    let u = (class_reader ids).takes rest p.0 small p.1 in
    subst (IsSubRecordTaken ids bytes) (equal_read_sub_records (class p.0.0, p.0.1) x p.2)
    (begins ∙ ap (λ (r : List ℕ). u1 0x20 ++ r) u.0 ∙ sym (append_assoc (u1 0x20) (class_text ids p.0.0) p.0.1), u.1, u.2)

class_again : (ids : IdSize) (c : ClassTold) (rest : List ℕ) → FitsClass ids c → class_sub_parts ids (class_text ids c ++ rest) ≡ Ok (class c, rest)
unfolding class_sub_parts
class_again ids c rest fits = ap (made class) ((class_reader ids).again c rest fits)

-- ---- sub-records

abbrev unknown_tag_fault : Result (Sub × List ℕ) Fault
unknown_tag_fault = Err faults.Tag

unknown_tag_gives_no_value : (x : Sub × List ℕ) → unknown_tag_fault ≡ Ok x → ⊥
unknown_tag_gives_no_value x e = absurd cc

rootless_taken : (ids : IdSize) (tag : ℕ) (bytes rest : List ℕ) (x : Sub × List ℕ) → IsBytes rest → bytes ≡ u1 tag ++ rest → rootless_parts ids tag rest ≡ Ok x → IsSubRecordTaken ids bytes x
rootless_taken ids tag bytes rest x small begins e =
    let at : (n : ℕ) → eqb tag n ≡ true → bytes ≡ u1 n ++ rest = λ n hit. begins ∙ ap (λ (t : ℕ). u1 t ++ rest) (eqb-true tag n hit) in
    elim (branch_of_condition_taken (eqb tag 0x20) (class_sub_parts ids rest) _ (Ok x) e) [
      | inl hit ↦ class_taken ids bytes rest x small (at 0x20 hit.0) hit.1
      | inr miss ↦ elim (branch_of_condition_taken (eqb tag 0x21) (instance_parts ids rest) _ (Ok x) miss.1) [
        | inl hit ↦ instance_taken ids bytes rest x small (at 0x21 hit.0) hit.1
        | inr miss ↦ elim (branch_of_condition_taken (eqb tag 0x22) (array_parts ids rest) _ (Ok x) miss.1) [
          | inl hit ↦ array_taken ids bytes rest x small (at 0x22 hit.0) hit.1
          | inr miss ↦ elim (branch_of_condition_taken (eqb tag 0x23) (prim_parts ids rest) _ (Ok x) miss.1) [
            | inl hit ↦ prim_taken ids bytes rest x small (at 0x23 hit.0) hit.1
            | inr miss ↦ absurd (unknown_tag_gives_no_value x miss.1)
          ]
        ]
      ]
    ]

tagged_taken : (ids : IdSize) (tag : ℕ) (o : Option ℕ) (bytes rest : List ℕ) (x : Sub × List ℕ) → root_size ids tag ≡ o → tag < 2 ^ 8 → IsBytes rest → bytes ≡ u1 tag ++ rest → tagged_parts ids tag o rest ≡ Ok x → IsSubRecordTaken ids bytes x
tagged_taken ids tag (Some size) bytes rest x is less small begins e = root_taken ids tag size bytes rest x less is small begins e
tagged_taken ids tag None bytes rest x is less small begins e = rootless_taken ids tag bytes rest x small begins e

sub_taken : (ids : IdSize) (bytes : List ℕ) (x : Sub × List ℕ) → IsBytes bytes → sub_parts ids bytes ≡ Ok x → IsSubRecordTaken ids bytes x
unfolding sub_parts
sub_taken ids bytes x small e =
    let q = bound_result_has_its_source (number_at w8 bytes) (λ a. after_tag ids a.0 a.1) x e in
    let t = one_byte_number_reader.takes bytes q.0 small q.1 in
    tagged_taken ids q.0.0 (root_size ids q.0.0) bytes q.0.1 x refl t.2 t.1 t.0 q.2

-- a tag and what follows it are read
tag_again : (ids : IdSize) (tag : ℕ) (bytes rest : List ℕ) (s : Sub) → tag < 2 ^ 8 → after_tag ids tag bytes ≡ Ok (s, rest) → sub_parts ids (u1 tag ++ bytes) ≡ Ok (s, rest)
unfolding sub_parts
tag_again ids tag bytes rest s less next = ap (λ (r : Result (ℕ × List ℕ) Fault). r >>= λ a. after_tag ids a.0 a.1) (one_byte_number_reader.again tag bytes less) ∙ next

sub_again : (ids : IdSize) (s : Sub) (rest : List ℕ) → FitsSub ids s → sub_parts ids (sub_text ids s ++ rest) ≡ Ok (s, rest)
sub_again ids (root tag x more) rest fits =
    ap (sub_parts ids) (sym (regrouped_3 (u1 tag) (id ids x) more rest)) ∙ tag_again ids tag ((id ids x ++ more) ++ rest) rest (root tag x more) fits.0 (root_again ids tag x more rest fits)
sub_again ids (class c) rest fits =
    ap (sub_parts ids) (append_assoc (u1 0x20) (class_text ids c) rest) ∙ tag_again ids 0x20 (class_text ids c ++ rest) rest (class c) (omega arith) (class_again ids c rest fits)
sub_again ids (instance x trace c values) rest fits =
    ap (sub_parts ids) (sym (regrouped_6 (u1 0x21) (id ids x) (u4 trace) (id ids c) (u4 (length values)) values rest))
    ∙ tag_again ids 0x21 (instance_text ids (x, (trace, (c, (length values, values)))) ++ rest) rest (instance x trace c values) (omega arith) (instance_again ids x trace c values rest fits)
sub_again ids (array x trace count c elements) rest fits =
    ap (sub_parts ids) (sym (regrouped_6 (u1 0x22) (id ids x) (u4 trace) (u4 count) (id ids c) elements rest))
    ∙ tag_again ids 0x22 (array_text ids (x, (trace, (count, (c, elements)))) ++ rest) rest (array x trace count c elements) (omega arith) (array_again ids x trace count c elements rest fits)
sub_again ids (prim x trace count kind elements) rest fits =
    ap (sub_parts ids) (sym (regrouped_6 (u1 0x23) (id ids x) (u4 trace) (u4 count) (u1 (type_code kind)) elements rest))
    ∙ tag_again ids 0x23 (prim_text ids (x, (trace, (count, (kind, elements)))) ++ rest) rest (prim x trace count kind elements) (omega arith) (prim_again ids x trace count kind elements rest fits)

pub sub_reader : (ids : IdSize) → IsReader (sub_text ids) (FitsSub ids) (sub_parts ids)
sub_reader ids = record { takes = sub_taken ids; again = sub_again ids }
