-- The sizes of segments, from the lengths of the sub-records.
use Rattle.std.proofs.Common.{◌≡◌, ℕ, ◌+◌, Bool, true, false, List, [], ◌∷◌, length, map, refl, ap, ap₂, ◌∙◌, arith}
use Rattle.std.specs.Prelude.{nat_le}
use Rattle.hprof_text.specs.Segments.{size_of, cut_at, segments_of, sizes_at, segment_sizes}
use Rattle.hprof_text.proofs.Cutting.{Cutting, cut_by, size_of_one_sub_more}

-- the sizes of a cutting whose open segment has `size` bytes already
abbrev sizes_with_open_segment : ℕ → Cutting → List ℕ
sizes_with_open_segment size r = (size + size_of r.0) ∷ map size_of r.1

sizes_of_cut_records : (limit size : ℕ) (xs : List (List ℕ)) → sizes_with_open_segment size (cut_at limit size xs) ≡ sizes_at limit size (map length xs)
unfolding cut_at sizes_at
sizes_of_cut_records limit size [] = λ i. (let e : size + 0 ≡ size = omega arith in e) i ∷ []
sizes_of_cut_records limit size (x ∷ xs) = go (nat_le (size + length x) limit) (sizes_of_cut_records limit (size + length x) xs) (sizes_of_cut_records limit (length x) xs)
  where
    go : (b : Bool) → sizes_with_open_segment (size + length x) (cut_at limit (size + length x) xs) ≡ sizes_at limit (size + length x) (map length xs) → sizes_with_open_segment (length x) (cut_at limit (length x) xs) ≡ sizes_at limit (length x) (map length xs)
        → sizes_with_open_segment size (cut_by b limit size x xs) ≡ elim b [ true ↦ sizes_at limit (size + length x) (map length xs) | false ↦ size ∷ sizes_at limit (length x) (map length xs) ]
    go true fits over =
        let r = cut_at limit (size + length x) xs in
        let s : size_of (x ∷ r.0) ≡ length x + size_of r.0 = size_of_one_sub_more x r.0 in
        let e : size + size_of (x ∷ r.0) ≡ (size + length x) + size_of r.0 = omega (arith, s) in
        ap (λ n. n ∷ map size_of r.1) e ∙ fits
    go false fits over =
        let r = cut_at limit (length x) xs in
        let e : size + 0 ≡ size = omega arith in
        ap₂ (λ n ns. n ∷ ns) e (ap (λ n. n ∷ map size_of r.1) (size_of_one_sub_more x r.0) ∙ over)

pub sizes_of_all_segments : (limit : ℕ) (subs : List (List ℕ)) → map size_of (segments_of limit subs) ≡ segment_sizes limit (map length subs)
unfolding segments_of segment_sizes
sizes_of_all_segments limit [] = refl
sizes_of_all_segments limit (x ∷ xs) = ap (λ n. n ∷ map size_of (cut_at limit (length x) xs).1) (size_of_one_sub_more x (cut_at limit (length x) xs).0) ∙ sizes_of_cut_records limit (length x) xs
