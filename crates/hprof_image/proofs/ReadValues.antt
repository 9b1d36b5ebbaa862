-- Words are read as they are spelled.
use Rattle.std.proofs.Common.{◌≡◌, ℕ, ◌≤◌, List, [], ◌∷◌, length, replicate, Option, Some, Result, refl, ap, ◌∙◌, arith}
use Rattle.std.specs.Prelude.{◌^◌, flat_map, zip}
use Rattle.std.specs.Int.{w8, w16, w32, w64}
use Rattle.std.specs.List.{AllByRecursion}
use Rattle.std.specs.Result.{result_ok}
use Rattle.std.proofs.lemmas.List.Elements.{recursion_from_All}
use Rattle.heap_class.specs.declared.IdSize.{IdSize}
use Rattle.heap_class.specs.declared.IdSize.TheVariants.{Four, Eight}
use Rattle.heap_class.specs.declared.Kind.{Kind}
use Rattle.heap_class.specs.declared.Kind.TheVariants.{Boolean, Char, Float, Double, Byte, Short, Int, Long}
use Rattle.heap_class.specs.Kinds.{id_bytes, width_of}
use Rattle.hprof_text.specs.Fits.{FitsBytes, FitsId, WordsFit}
use Rattle.hprof_text.specs.Text.{id, value_bytes}
use Rattle.hprof_text.proofs.Lengths.{id_length, length-value}
use Rattle.hprof_reader.specs.declared.fault.Fault.{Fault}
use Rattle.hprof_reader.specs.Reading.{number_at}
use Rattle.hprof_reader.specs.SubParts.{id_at}
use Rattle.hprof_reader.proofs.Readers.{IsReader, number_reader, one_byte_numbers_are_exact, two_byte_numbers_are_exact, four_byte_numbers_are_exact, eight_byte_numbers_are_exact}
use Rattle.hprof_reader.proofs.ReadKinds.{id_reader}
use Rattle.hprof_image.specs.Items.{◌>>=◌, items_in}
use Rattle.hprof_image.specs.Parts.{value_width, values_in}
use Rattle.hprof_image.proofs.ReadItems.{spelled_items_are_read}

pub value_reader : (ids : IdSize) (k : Kind) → IsReader (λ w. value_bytes ids (k, w)) (FitsBytes (width_of ids k)) (number_at (value_width ids k))
unfolding value_bytes
value_reader ids Kind.Object = id_reader ids
value_reader ids Boolean = number_reader w8 (2 ^ 8) one_byte_numbers_are_exact
value_reader ids Char = number_reader w16 (2 ^ 16) two_byte_numbers_are_exact
value_reader ids Float = number_reader w32 (2 ^ 32) four_byte_numbers_are_exact
value_reader ids Double = number_reader w64 (2 ^ 64) eight_byte_numbers_are_exact
value_reader ids Byte = number_reader w8 (2 ^ 8) one_byte_numbers_are_exact
value_reader ids Short = number_reader w16 (2 ^ 16) two_byte_numbers_are_exact
value_reader ids Int = number_reader w32 (2 ^ 32) four_byte_numbers_are_exact
value_reader ids Long = number_reader w64 (2 ^ 64) eight_byte_numbers_are_exact

pub id_has_bytes : (ids : IdSize) → 1 ≤ id_bytes ids
id_has_bytes Four = omega arith
id_has_bytes Eight = omega arith

width_is_positive : (ids : IdSize) (k : Kind) → 1 ≤ width_of ids k
width_is_positive ids Kind.Object = id_has_bytes ids
width_is_positive ids Boolean = omega arith
width_is_positive ids Char = omega arith
width_is_positive ids Float = omega arith
width_is_positive ids Double = omega arith
width_is_positive ids Byte = omega arith
width_is_positive ids Short = omega arith
width_is_positive ids Int = omega arith
width_is_positive ids Long = omega arith

-- ---- the words of an instance

pub values_of_slots_are_read : (ids : IdSize) (kinds : List Kind) (words : List ℕ) → length words ≡ length kinds → AllByRecursion (λ p. FitsBytes (width_of ids p.0) p.1) (zip kinds words)
    → values_in ids kinds (flat_map (value_bytes ids) (zip kinds words)) ≡ Some words
unfolding values_in
values_of_slots_are_read ids [] [] same fit = refl
values_of_slots_are_read ids [] (w ∷ words) same fit = absurd (omega (arith, same))
values_of_slots_are_read ids (k ∷ kinds) [] same fit = absurd (omega (arith, same))
values_of_slots_are_read ids (k ∷ kinds) (w ∷ words) same fit =
    ap (λ (r : Result (ℕ × List ℕ) Fault). result_ok r >>= λ x. values_in ids kinds x.1 >>= λ xs. Some (x.0 ∷ xs)) ((value_reader ids k).again w (flat_map (value_bytes ids) (zip kinds words)) fit.0)
    ∙ ap (λ (o : Option (List ℕ)). o >>= λ xs. Some (w ∷ xs)) (values_of_slots_are_read ids kinds words (omega (arith, same)) fit.1)

-- ---- the words of arrays

words_of_one_kind_fit : (ids : IdSize) (k : Kind) (words : List ℕ) → AllByRecursion (λ p. FitsBytes (width_of ids p.0) p.1) (zip (replicate (length words) k) words) → AllByRecursion (FitsBytes (width_of ids k)) words
words_of_one_kind_fit ids k [] fit = tt
words_of_one_kind_fit ids k (w ∷ words) fit = (fit.0, words_of_one_kind_fit ids k words fit.1)

pub references_of_array_are_read : (ids : IdSize) (words : List ℕ) → WordsFit ids (replicate (length words) Kind.Object) words → items_in (id_at ids) (flat_map (id ids) words) ≡ Some words
references_of_array_are_read ids words fit =
    spelled_items_are_read (id ids) (FitsId ids) (id_at ids) (id_reader ids) (λ n. omega (arith, id_length ids n, id_has_bytes ids)) words
    (words_of_one_kind_fit ids Kind.Object words (recursion_from_All _ (zip (replicate (length words) Kind.Object) words) fit))

pub values_of_array_are_read : (ids : IdSize) (k : Kind) (words : List ℕ) → WordsFit ids (replicate (length words) k) words → items_in (number_at (value_width ids k)) (flat_map (λ w. value_bytes ids (k, w)) words) ≡ Some words
values_of_array_are_read ids k words fit =
    spelled_items_are_read (λ w. value_bytes ids (k, w)) (FitsBytes (width_of ids k)) (number_at (value_width ids k)) (value_reader ids k) (λ n. omega (arith, length-value ids k n, width_is_positive ids k)) words
    (words_of_one_kind_fit ids k words (recursion_from_All _ (zip (replicate (length words) k) words) fit))
