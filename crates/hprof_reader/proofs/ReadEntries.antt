-- Constants, static fields and fields are read as they are spelled.
use Rattle.std.proofs.Common.{◌≡◌, ℕ, zero, suc, ◌+◌, ◌-◌, ◌*◌, ◌^◌, ◌<◌, List, [], ◌∷◌, ◌++◌, length, take, Result, Ok, refl, sym, ap, subst, ◌∙◌, append_assoc, arith}
use Rattle.std.specs.Int.{w16}
use Rattle.std.specs.List.{flat_map, AllByRecursion}
use Rattle.std.proofs.lemmas.List.{take_at, length-append}
use Rattle.std.proofs.lemmas.List.Concat.{flat_map-cons}
use Rattle.heap_class.specs.declared.IdSize.{IdSize}
use Rattle.heap_class.specs.declared.Kind.{Kind}
use Rattle.heap_class.specs.Kinds.{id_bytes, width_of, type_code}
use Rattle.hprof_text.specs.Text.{u1, u2}
use Rattle.hprof_reader.specs.Entries.{entry_fields, made_entry, entry_parts, after_entries, table_parts, fields_pair, made_entries, fields_table_parts}
use Rattle.hprof_reader.specs.declared.fault.Fault.{Fault}
use Rattle.hprof_reader.specs.Kinds.{kind_parts}
use Rattle.hprof_reader.specs.Reading.{◌>>=◌, read_in_turn, number_at, taken_at}
use Rattle.hprof_reader.specs.SubRecords.{EntryTold, Entries, entry_text, entries_text, FitsEntry, AreEntries, AreFields}
use Rattle.hprof_reader.proofs.Readers.{IsBytes, IsReader, two_byte_numbers_are_exact, number_reader, bytes_reader, reader_of_two_in_turn, reader_that_makes_value, bound_result_has_its_source, equal_reads_have_equal_values}
use Rattle.hprof_reader.proofs.ReadKinds.{kind_reader}

two_byte_number_reader : IsReader u2 (λ n. n < 2 ^ 16) (number_at w16)
two_byte_number_reader = number_reader w16 (2 ^ 16) two_byte_numbers_are_exact

-- ---- an entry

abbrev parts_text : List ℕ × (Kind × List ℕ) → List ℕ
parts_text x = x.0 ++ (u1 (type_code x.1.0) ++ x.1.1)

abbrev EntryPartsFit : IdSize → ℕ → List ℕ × (Kind × List ℕ) → Type 0
EntryPartsFit ids key x = (length x.0 ≡ key) × (Unit {0} × (length x.1.1 ≡ width_of ids x.1.0))

parts_reader : (ids : IdSize) (key : ℕ) → IsReader parts_text (EntryPartsFit ids key) (entry_fields ids key)
parts_reader ids key =
    reader_of_two_in_turn {A = List ℕ} {B = Kind × List ℕ} (λ b. b) (λ b. length b ≡ key) (taken_at key) (λ b x. u1 (type_code x.0) ++ x.1) (λ b x. Unit {0} × (length x.1 ≡ width_of ids x.0)) (λ b. read_in_turn kind_parts (λ kind. taken_at (width_of ids kind)))
    (bytes_reader key)
    (λ b _. reader_of_two_in_turn {A = Kind} {B = List ℕ} (λ k. u1 (type_code k)) (λ k. Unit {0}) kind_parts (λ k v. v) (λ k v. length v ≡ width_of ids k) (λ k. taken_at (width_of ids k)) kind_reader (λ k _. bytes_reader (width_of ids k)))

pub entry_reader : (ids : IdSize) (key : ℕ) → IsReader entry_text (FitsEntry ids key) (entry_parts ids key)
unfolding entry_parts
entry_reader ids key =
    reader_that_makes_value parts_text (EntryPartsFit ids key) (entry_fields ids key) made_entry entry_text (FitsEntry ids key) (parts_reader ids key)
    (record {
      spelled = λ x fits. (sym (append_assoc x.0 (u1 (type_code x.1.0)) x.1.1), (fits.0, fits.1.1));
      each = λ e fits. ((e.key, (e.kind, e.value)), (fits.0, (tt, fits.1)), refl, append_assoc e.key (u1 (type_code e.kind)) e.value);
    })

-- ---- several entries

pub entries_read_are_taken : (ids : IdSize) (key n : ℕ) (bytes rest : List ℕ) → IsBytes bytes → after_entries ids key n bytes ≡ Ok rest
    → (list : List EntryTold) × (length list ≡ n) × (bytes ≡ flat_map entry_text list ++ rest) × IsBytes rest × AllByRecursion (FitsEntry ids key) list
unfolding after_entries
entries_read_are_taken ids key zero bytes rest small e = let same = equal_reads_have_equal_values bytes rest e in ([], refl, same, subst IsBytes same small, tt)
entries_read_are_taken ids key (suc n) bytes rest small e =
    let p = bound_result_has_its_source (entry_parts ids key bytes) (λ x. after_entries ids key n x.1) rest e in
    let u = (entry_reader ids key).takes bytes p.0 small p.1 in
    let v = entries_read_are_taken ids key n p.0.1 rest u.1 p.2 in
    let text : bytes ≡ flat_map entry_text (p.0.0 ∷ v.0) ++ rest =
    u.0 ∙ ap (λ (r : List ℕ). entry_text p.0.0 ++ r) v.2 ∙ sym (append_assoc (entry_text p.0.0) (flat_map entry_text v.0) rest)
    ∙ ap (λ (r : List ℕ). r ++ rest) (sym (flat_map-cons entry_text p.0.0 v.0)) in
    (p.0.0 ∷ v.0, ap suc v.1, text, v.3, (u.2, v.4))

entries_written_read_again : (ids : IdSize) (key : ℕ) (list : List EntryTold) (rest : List ℕ) → AllByRecursion (FitsEntry ids key) list → after_entries ids key (length list) (flat_map entry_text list ++ rest) ≡ Ok rest
unfolding after_entries
entries_written_read_again ids key [] rest fits = refl
entries_written_read_again ids key (e ∷ list) rest fits =
    let text : flat_map entry_text (e ∷ list) ++ rest ≡ entry_text e ++ (flat_map entry_text list ++ rest) =
    ap (λ (r : List ℕ). r ++ rest) (flat_map-cons entry_text e list) ∙ append_assoc (entry_text e) (flat_map entry_text list) rest in
    ap (after_entries ids key (suc (length list))) text
    ∙ ap (λ (r : Result (EntryTold × List ℕ) Fault). r >>= λ x. after_entries ids key (length list) x.1) ((entry_reader ids key).again e (flat_map entry_text list ++ rest) fits.0)
    ∙ entries_written_read_again ids key list rest fits.1

-- ---- tables

bytes_taken_before_rest : (bytes text rest : List ℕ) → bytes ≡ text ++ rest → take (length bytes - length rest) bytes ≡ text
bytes_taken_before_rest bytes text rest is =
    ap (λ (b : List ℕ). take (length b - length rest) b) is ∙ take_at text rest (length (text ++ rest) - length rest) (omega (arith, length-append text rest))

abbrev made_table : ℕ × List ℕ → List ℕ → Result (Entries × List ℕ) Fault
made_table n rest = Ok (record { count = n.0; bytes = take (length n.1 - length rest) n.1 }, rest)

table_taken : (ids : IdSize) (key : ℕ) (bytes : List ℕ) (x : Entries × List ℕ) → IsBytes bytes → table_parts ids key bytes ≡ Ok x → (bytes ≡ entries_text x.0 ++ x.1) × IsBytes x.1 × AreEntries ids key x.0
unfolding table_parts
table_taken ids key bytes x small e =
    let p = bound_result_has_its_source (number_at w16 bytes) (λ n. after_entries ids key n.0 n.1 >>= made_table n) x e in
    let t = two_byte_number_reader.takes bytes p.0 small p.1 in
    let q = bound_result_has_its_source (after_entries ids key p.0.0 p.0.1) (made_table p.0) x p.2 in
    let v = entries_read_are_taken ids key p.0.0 p.0.1 q.0 t.1 q.1 in
    let text = flat_map entry_text v.0 in
    let is : take (length p.0.1 - length q.0) p.0.1 ≡ text = bytes_taken_before_rest p.0.1 text q.0 v.2 in
    let y : Entries × List ℕ = (record { count = p.0.0; bytes = take (length p.0.1 - length q.0) p.0.1 }, q.0) in
    subst (λ (y : Entries × List ℕ). (bytes ≡ entries_text y.0 ++ y.1) × IsBytes y.1 × AreEntries ids key y.0) (equal_reads_have_equal_values y x q.2) (
      t.0 ∙ ap (λ (r : List ℕ). u2 p.0.0 ++ r) (v.2 ∙ ap (λ (r : List ℕ). r ++ q.0) (sym is)) ∙ sym (append_assoc (u2 p.0.0) (take (length p.0.1 - length q.0) p.0.1) q.0),
      v.3,
      record { count = t.2; list = v.0; counted = v.1; spelled = sym is; each = v.4 },
    )

table_again : (ids : IdSize) (key : ℕ) (t : Entries) (rest : List ℕ) → AreEntries ids key t → table_parts ids key (entries_text t ++ rest) ≡ Ok (t, rest)
unfolding table_parts
table_again ids key t rest fits =
    let list = fits.list in
    let is : t.bytes ++ rest ≡ flat_map entry_text list ++ rest = ap (λ (b : List ℕ). b ++ rest) (sym fits.spelled) in
    let after : after_entries ids key t.count (t.bytes ++ rest) ≡ Ok rest = ap (after_entries ids key t.count) is ∙ ap (λ (n : ℕ). after_entries ids key n (flat_map entry_text list ++ rest)) (sym fits.counted) ∙ entries_written_read_again ids key list rest fits.each in
    ap (table_parts ids key) (append_assoc (u2 t.count) t.bytes rest)
    ∙ ap (λ (r : Result (ℕ × List ℕ) Fault). r >>= λ n. after_entries ids key n.0 n.1 >>= made_table n) (two_byte_number_reader.again t.count (t.bytes ++ rest) fits.count)
    ∙ ap (λ (r : Result (List ℕ) Fault). r >>= made_table (t.count, t.bytes ++ rest)) after
    ∙ ap (λ (b : List ℕ). Ok (record { count = t.count; bytes = b }, rest)) (bytes_taken_before_rest (t.bytes ++ rest) t.bytes rest refl)

pub table_reader : (ids : IdSize) (key : ℕ) → IsReader entries_text (AreEntries ids key) (table_parts ids key)
table_reader ids key = record { takes = table_taken ids key; again = table_again ids key }

-- ---- own fields

abbrev pair_text : ℕ × List ℕ → List ℕ
pair_text x = u2 x.0 ++ x.1

abbrev TableBytesFit : IdSize → ℕ × List ℕ → Type 0
TableBytesFit ids x = (x.0 < 2 ^ 16) × (length x.1 ≡ (id_bytes ids + 1) * x.0)

pair_reader : (ids : IdSize) → IsReader pair_text (TableBytesFit ids) (fields_pair ids)
pair_reader ids =
    reader_of_two_in_turn {A = ℕ} {B = List ℕ} u2 (λ n. n < 2 ^ 16) (number_at w16) (λ n b. b) (λ n b. length b ≡ (id_bytes ids + 1) * n) (λ n. taken_at ((id_bytes ids + 1) * n)) two_byte_number_reader (λ n _. bytes_reader ((id_bytes ids + 1) * n))

pub field_table_reader : (ids : IdSize) → IsReader entries_text (AreFields ids) (fields_table_parts ids)
unfolding fields_table_parts
field_table_reader ids =
    reader_that_makes_value pair_text (TableBytesFit ids) (fields_pair ids) made_entries entries_text (AreFields ids) (pair_reader ids)
    (record { spelled = λ x fits. (refl, fits); each = λ t fits. ((t.count, t.bytes), fits, refl, refl) })
