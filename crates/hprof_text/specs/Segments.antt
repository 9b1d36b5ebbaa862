-- The text of a dump, whose sub-records stand in segments, and its pieces.
use Rattle.std.specs.Prelude.{◌≡◌, ◌≢◌, ◌⊎◌, ℕ, ◌+◌, ◌<◌, ◌≤◌, nat_le, true, false, List, [], ◌∷◌, ◌++◌, length, map, flat_map, slice_get, slice_index_or, unwrap_or, All, ⊤, if◌then◌else◌}
use Rattle.std.specs.List.{concat}
use Rattle.heap_class.specs.declared.IdSize.{IdSize}
use Rattle.hprof_text.specs.declared.Piece.{Piece}
use Rattle.hprof_text.specs.Image.{Image}
use Rattle.hprof_text.specs.Text.{record_of, opening_records, sub_records}

-- the largest size of a segment's body in bytes, unless it is a single sub-record
abbrev pub segment_limit : ℕ
segment_limit = 4096

-- ---- the rules of segments; a segment is a list of sub-records

-- the size of a segment's body in bytes
abbrev pub size_of : List (List ℕ) → ℕ
size_of segment = length (concat segment)

-- the first sub-record of the next segment, if there is one, would make a body of this size longer than `limit`
abbrev pub HasNoRoom : ℕ → ℕ → List (List (List ℕ)) → Type 0
HasNoRoom limit size [] = ⊤
HasNoRoom limit size (s ∷ more) = limit < size + length (slice_index_or s 0 [])

-- no segment could take the next sub-record
abbrev pub AreFilled : ℕ → List (List (List ℕ)) → Type 0
AreFilled limit [] = ⊤
AreFilled limit (s ∷ more) = HasNoRoom limit (size_of s) more × AreFilled limit more

-- the segments have the sub-records in order; none is empty, none is longer than `limit` unless it is a single sub-record, and
-- none could take the next sub-record
pub record AreSegments (limit : ℕ) (subs : List (List ℕ))
    (segments : List (List (List ℕ))) : Type 0 where
  pub joined : flat_map (λ s. s) segments ≡ subs
  pub inhabited : All (λ s. s ≢ []) segments
  pub within : All (λ s. (size_of s ≤ limit) ⊎ (length s ≡ 1)) segments
  pub filled : AreFilled limit segments

-- ---- the cutting, from the front

-- the sub-records that a segment of `size` bytes still takes, and the segments after it
unfoldable pub cut_at : ℕ → ℕ → List (List ℕ) → List (List ℕ) × List (List (List ℕ))
cut_at limit size [] = ([], [])
cut_at limit size (x ∷ xs) =
    if nat_le (size + length x) limit
    then (let r = cut_at limit (size + length x) xs in (x ∷ r.0, r.1))
    else (let r = cut_at limit (length x) xs in ([], (x ∷ r.0) ∷ r.1))

-- the segments of these sub-records, cut from the front
unfoldable pub segments_of : ℕ → List (List ℕ) → List (List (List ℕ))
segments_of limit [] = []
segments_of limit (x ∷ xs) = let r = cut_at limit (length x) xs in (x ∷ r.0) ∷ r.1

-- the sizes of the segments, from the sizes of the sub-records alone; the first has `size` bytes already
unfoldable pub sizes_at : ℕ → ℕ → List ℕ → List ℕ
sizes_at limit size [] = size ∷ []
sizes_at limit size (n ∷ ns) =
    elim (nat_le (size + n) limit)
    [ true ↦ sizes_at limit (size + n) ns | false ↦ size ∷ sizes_at limit n ns ]

-- the sizes of the segments, from the sizes of the sub-records alone
unfoldable pub segment_sizes : ℕ → List ℕ → List ℕ
segment_sizes limit [] = []
segment_sizes limit (n ∷ ns) = sizes_at limit n ns

-- ---- the text and its pieces

-- a HEAP DUMP SEGMENT record for each segment of the sub-records
unfoldable pub segment_records : List (List ℕ) → List (List ℕ)
segment_records subs = map (λ s. record_of 0x1c (concat s)) (segments_of segment_limit subs)

-- the HEAP DUMP END record
unfoldable pub end_record : List ℕ
end_record = record_of 0x2c []

-- the records after the opening records: the segments of these sub-records, and the end
abbrev pub records_from : List (List ℕ) → List (List ℕ)
records_from subs = segment_records subs ++ end_record ∷ []

-- the pieces of a dump: the opening records, one for each segment, and the end
unfoldable pub pieces_of : IdSize → Image → ℕ → List (List ℕ)
pieces_of ids image time = opening_records ids image time ∷ records_from (sub_records ids image)

-- the whole text of a dump
unfoldable pub dump_text : IdSize → Image → ℕ → List ℕ
dump_text ids image time =
    opening_records ids image time ++ concat (segment_records (sub_records ids image)) ++ end_record

-- piece i of these, empty past the last
unfoldable pub nth_piece : ℕ → List (List ℕ) → Piece
nth_piece i pieces =
    record { bytes = unwrap_or (slice_get pieces i) []; last = nat_le (length pieces) (i + 1) }

-- piece i of a dump
unfoldable pub piece_of : IdSize → Image → ℕ → ℕ → Piece
piece_of ids image time i = nth_piece i (pieces_of ids image time)
