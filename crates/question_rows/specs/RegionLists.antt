-- The text of `regions`.
use Rattle.std.specs.Prelude.{◌≡◌, ℕ, ◌+◌, Bool, true, false, List, [], ◌++◌, codes, flat_map, length, Result, Ok, Err}
use Rattle.std.specs.Option.{option_map_or}
use Rattle.heap_class.specs.declared.Refusal.{Refusal}
use Rattle.heap_world.specs.Regions.{Region, used_at}
use Rattle.heap_trail.specs.Machine.{Machine}
use Rattle.heap_trail.specs.Trail.{Trail, state_ago}
use Rattle.heap_questions.specs.declared.past.summaries.RegionSummary.{RegionSummary}
use Rattle.heap_questions.specs.declared.region_counts.RegionCounts.{RegionCounts}
use Rattle.heap_questions.specs.Cells.{used_regions}
use Rattle.heap_questions.specs.RegionSummaries.{summary_of}
use Rattle.session_text.specs.Replies.{and_number}
use Rattle.question_words.specs.declared.at.At.{At}
use Rattle.question_words.specs.Moments.{ago_at, refused_text}
use Rattle.question_words.specs.Places.{IsTextOrNoMemory}
use Rattle.question_words.specs.Rows.{count_text}

-- how many objects there are, how many of them are live, and how many aren't
abbrev pub and_objects : RegionCounts → List ℕ
and_objects c = (and_number (c.live + c.dead) ++ and_number c.live) ++ and_number c.dead

-- whether a region waits to be swept
abbrev pub waits_words : Bool → List ℕ
waits_words true = codes " waits\n"
waits_words false = codes " -\n"

-- the line of region r by what is told of it: its number, the size of its cells, its objects, and whether it waits to be swept
unfoldable pub summary_text : ℕ → RegionSummary → List ℕ
summary_text r s =
    (((codes "row" ++ and_number r) ++ and_number s.cell_size) ++ and_objects s.counts)
    ++ waits_words s.waits

-- the line of region r, if it is in use
abbrev pub region_row : List Region → ℕ → List ℕ
region_row regions r =
    option_map_or (λ u. summary_text r (summary_of u)) (used_at regions r) []

-- the lines of the regions in use, and their number
abbrev pub regions_text : List Region → List ℕ
regions_text regions =
    flat_map (region_row regions) (used_regions regions) ++ count_text (length (used_regions regions))

-- the lines of the regions in use in a state some steps ago, or why there are none
abbrev pub IsRegionsTextAgo : Trail → Result ℕ Refusal → List ℕ → Type 0
IsRegionsTextAgo t (Ok ago) text =
    IsTextOrNoMemory (λ text. text ≡ regions_text (state_ago ago t).regions) text
IsRegionsTextAgo t (Err e) text = text ≡ refused_text e

-- the answer of `regions`
abbrev pub IsRegionsText : At → Machine → List ℕ → Type 0
IsRegionsText at m text = IsRegionsTextAgo m.trail (ago_at at m) text
