-- Lines about dumps that were refused or lost.
use Rattle.std.specs.Prelude.{◌≡◌, ◌⊎◌, ℕ, ◌+◌, ◌<◌, List, Option, Some, None}
use Rattle.shared_dump.specs.declared.failures.Line.{Line}
use Rattle.shared_dump.specs.declared.failures.Line.TheVariants.{Ended, Last}

-- the most lines that are told
abbrev pub line_limit : ℕ
line_limit = 1000

-- a line tells of the dumps that are counted, if there are any; but the last one that may be told tells only that it is the last
abbrev pub IsLine : List ℕ → ℕ → ℕ → Option Line → Type 0
IsLine word count lines None = (count ≡ 0) ⊎ (lines ≡ line_limit)
IsLine word count lines (Some (Ended name number)) =
    (name.now ≡ word) × (number ≡ count) × (0 < count) × (lines + 1 < line_limit)
IsLine word count lines (Some Last) = (0 < count) × (lines + 1 ≡ line_limit)
