-- The texts of `referrers` and `registers`.
use Rattle.std.specs.Prelude.{◌≡◌, ℕ, ◌/◌, ◌%◌, List, ◌++◌, codes, flat_map, length, Option, Some, None}
use Rattle.heap_world.specs.Limits.{registers_each}
use Rattle.hprof_text.specs.Image.{DumpedObject, Image}
use Rattle.heap_questions.specs.declared.references.Referrer.{Referrer}
use Rattle.heap_questions.specs.declared.references.Referrer.TheVariants.{Register, Slot}
use Rattle.heap_questions.specs.Graph.{object_with}
use Rattle.heap_questions.specs.Referrers.{referrers_of}
use Rattle.session_text.specs.Replies.{and_number, line}
use Rattle.question_words.specs.Ids.{and_id}
use Rattle.question_words.specs.Moments.{no_object_text}
use Rattle.question_words.specs.Rows.{count_text}

-- a register of all: the number of its mutator, and its own
abbrev pub and_register : ℕ → List ℕ
and_register r = and_number (r / registers_each) ++ and_number (r % registers_each)

-- what names an object
abbrev pub referrer_words : Referrer → List ℕ
referrer_words (Register r) = and_register r
referrer_words (Slot object slot) = and_id object ++ and_number slot

-- the line of what names an object
unfoldable pub referrer_text : Referrer → List ℕ
referrer_text r = line (codes "row" ++ referrer_words r)

-- the lines of all that names an object
abbrev pub referrers_text : List Referrer → List ℕ
referrers_text all = flat_map referrer_text all ++ count_text (length all)

-- the answer about an object, if it is there
abbrev pub referrers_text_of : Option DumpedObject → List Referrer → List ℕ
referrers_text_of None all = no_object_text
referrers_text_of (Some o) all = referrers_text all

-- the answer of `referrers`
abbrev pub IsReferrersText : ℕ → Image → List ℕ → Type 0
IsReferrersText x image text =
    text ≡ referrers_text_of (object_with image x) (referrers_of image x)
