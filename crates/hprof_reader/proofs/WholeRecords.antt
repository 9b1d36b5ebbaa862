-- Records are read as they are spelled.
use Rattle.std.proofs.Common.{◌≡◌, ℕ, ◌^◌, ◌<◌, List, ◌++◌, length, refl, sym, ap, ◌∙◌, append_assoc, arith}
use Rattle.std.specs.Int.{w8, w32, to_be_bytes}
use Rattle.hprof_records.specs.Heads.{u1, u4}
use Rattle.hprof_reader.specs.Records.{Told, record_text, FitsRecord}
use Rattle.hprof_reader.specs.Reading.{number_at, taken_at, record_fields, made_record, record_parts}
use Rattle.hprof_reader.proofs.Readers.{IsReader, one_byte_numbers_are_exact, four_byte_numbers_are_exact, number_reader, bytes_reader, reader_of_two_in_turn, reader_that_makes_value}

abbrev fields_text : ℕ × (ℕ × (ℕ × List ℕ)) → List ℕ
fields_text x = to_be_bytes w8 x.0 ++ (to_be_bytes w32 x.1.0 ++ (to_be_bytes w32 x.1.1.0 ++ x.1.1.1))

abbrev RecordFieldsFit : ℕ × (ℕ × (ℕ × List ℕ)) → Type 0
RecordFieldsFit x = (x.0 < 2 ^ 8) × ((x.1.0 < 2 ^ 32) × ((x.1.1.0 < 2 ^ 32) × (length x.1.1.1 ≡ x.1.1.0)))

pub record_fields_reader : IsReader fields_text RecordFieldsFit record_fields
record_fields_reader =
    let number = number_reader w32 (2 ^ 32) four_byte_numbers_are_exact in
    reader_of_two_in_turn (to_be_bytes w8) (λ n. n < 2 ^ 8) (number_at w8) _ _ _ (number_reader w8 (2 ^ 8) one_byte_numbers_are_exact)
    (λ tag _. reader_of_two_in_turn (to_be_bytes w32) (λ n. n < 2 ^ 32) (number_at w32) _ _ _ number
    (λ time _. reader_of_two_in_turn (to_be_bytes w32) (λ n. n < 2 ^ 32) (number_at w32) (λ size b. b) (λ size b. length b ≡ size) taken_at number (λ size _. bytes_reader size)))

pub four_texts_regrouped : (t s z b : List ℕ) → t ++ (s ++ (z ++ b)) ≡ t ++ s ++ z ++ b
four_texts_regrouped t s z b = sym (append_assoc t s (z ++ b)) ∙ sym (append_assoc (t ++ s) z b)

record_made : (x : ℕ × (ℕ × (ℕ × List ℕ))) → RecordFieldsFit x → (fields_text x ≡ record_text (made_record x)) × FitsRecord (made_record x)
record_made x fits = (
  four_texts_regrouped (u1 x.0) (u4 x.1.0) (u4 x.1.1.0) x.1.1.1 ∙ ap (λ (n : ℕ). u1 x.0 ++ u4 x.1.0 ++ u4 n ++ x.1.1.1) (sym fits.1.1.1),
  record { tag = fits.0; time = fits.1.0; body = omega (arith, fits.1.1.0, fits.1.1.1) },
)

fitting_record_is_made : (r : Told) → FitsRecord r → (x : ℕ × (ℕ × (ℕ × List ℕ))) × RecordFieldsFit x × (made_record x ≡ r) × (record_text r ≡ fields_text x)
fitting_record_is_made r fits = ((r.tag, (r.time, (length r.body, r.body))), (fits.tag, (fits.time, (fits.body, refl))), refl, sym (four_texts_regrouped (u1 r.tag) (u4 r.time) (u4 (length r.body)) r.body))

pub record_reader : IsReader record_text FitsRecord record_parts
unfolding record_parts
record_reader = reader_that_makes_value fields_text RecordFieldsFit record_fields made_record record_text FitsRecord record_fields_reader (record { spelled = record_made; each = fitting_record_is_made })
