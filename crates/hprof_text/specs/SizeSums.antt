-- For proofs: sums of sizes of segments.
use Rattle.std.specs.Prelude.{◌≡◌, ℕ, ◌+◌, List, [], ◌++◌, length, map}
use Rattle.hprof_text.specs.declared.measure.Measure.{Measure}
use Rattle.hprof_text.specs.Sizes.{records_size_after}

-- the size of all segments if sub-records of these sizes follow, in bytes
abbrev pub total_with : Measure → List ℕ → ℕ
total_with m more = m.closed + records_size_after m.body more

-- the size of all segments, in bytes
abbrev pub total : Measure → ℕ
total m = total_with m []

-- sub-records of these sizes were added
abbrev pub AddsSizes : List ℕ → Measure → Measure → Type 0
AddsSizes sizes old new = (more : List ℕ) → total_with new more ≡ total_with old (sizes ++ more)

-- of these sub-records all were added but those that are left
abbrev pub IsMeasured : List (List ℕ) → List (List ℕ) → Measure → Measure → Type 0
IsMeasured rest left old new = total_with new (map length left) ≡ total_with old (map length rest)

-- the most bytes that the items of a section add, with the heads of their segments: 2^24 sub-records of 16,777,201 bytes
abbrev pub section_limit : ℕ
section_limit = 281474876047360
