-- How many pieces there are.
use Rattle.std.proofs.Common.{◌≡◌, ℕ, ◌+◌, ◌≤◌, Bool, true, false, List, [], ◌∷◌, ◌++◌, length, map, arith, length-append}
use Rattle.std.specs.Prelude.{nat_le}
use Rattle.std.specs.List.{concat}
use Rattle.std.proofs.lemmas.List.{length-map}
use Rattle.heap_class.specs.declared.IdSize.{IdSize}
use Rattle.hprof_text.specs.Image.{Image}
use Rattle.hprof_text.specs.Segments.{segment_limit, cut_at, segments_of, segment_records, end_record, pieces_of}
use Rattle.hprof_text.specs.Text.{record_of, sub_records}
use Rattle.hprof_text.specs.Laws.{PiecesFew}
use Rattle.hprof_text.proofs.Cutting.{cut_by}
use Rattle.hprof_text.proofs.Sections.{sub_records_within_counts}

-- no segment is empty, so there are at most as many as sub-records
segments_no_more_than_records : (limit size : ℕ) (xs : List (List ℕ)) → length (cut_at limit size xs).1 ≤ length xs
unfolding cut_at
segments_no_more_than_records limit size [] = omega arith
segments_no_more_than_records limit size (x ∷ xs) = go (nat_le (size + length x) limit) (segments_no_more_than_records limit (size + length x) xs) (segments_no_more_than_records limit (length x) xs)
  where
    go : (b : Bool) → length (cut_at limit (size + length x) xs).1 ≤ length xs → length (cut_at limit (length x) xs).1 ≤ length xs → length (cut_by b limit size x xs).1 ≤ length (x ∷ xs)
    go true fits over = omega (arith, fits)
    go false fits over = omega (arith, over)

segments_at_most_sub_records : (limit : ℕ) (xs : List (List ℕ)) → length (segments_of limit xs) ≤ length xs
unfolding segments_of
segments_at_most_sub_records limit [] = omega arith
segments_at_most_sub_records limit (x ∷ xs) = omega (arith, segments_no_more_than_records limit (length x) xs)

pub pieces_within_piece_limit : (ids : IdSize) (image : Image) (time : ℕ) → PiecesFew ids image time
unfolding pieces_of segment_records
pieces_within_piece_limit ids image time d =
    let segments = segments_of segment_limit (sub_records ids image) in
    let records = map (λ s. record_of 0x1c (concat s)) segments in
    let n : length records ≡ length segments = length-map segments (λ s. record_of 0x1c (concat s)) in
    let m : length (records ++ end_record ∷ []) ≡ length records + 1 = length-append records (end_record ∷ []) in
    omega (arith, n, m, segments_at_most_sub_records segment_limit (sub_records ids image), sub_records_within_counts ids image, d.few_classes, d.few_objects, d.few_registers)
