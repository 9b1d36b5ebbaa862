-- The text of `status`.
use Rattle.std.specs.Prelude.{◌≡◌, ℕ, ◌-◌, List, [], ◌∷◌, ◌++◌, codes, flat_map, length, Option, Some, None}
use Rattle.heap_mark.specs.declared.Phase.{Phase}
use Rattle.heap_mark.specs.declared.Phase.TheVariants.{Idle, Marking}
use Rattle.heap_mark.specs.MarkSteps.{pending_regions}
use Rattle.heap_trail.specs.Machine.{Machine}
use Rattle.heap_trail.specs.Trail.{Trail, retained}
use Rattle.heap_world.specs.State.{HeapState}
use Rattle.session_text.specs.Replies.{and_number, line}
use Rattle.question_words.specs.Places.{IsTextOrNoMemory}
use Rattle.question_words.specs.Rows.{count_text}

-- the word of a phase
abbrev pub phase_word : Phase → List ℕ
phase_word Idle = codes "idle"
phase_word Marking = codes "marking"

-- the place, and the number of the retained steps
abbrev pub trail_facts : Trail → List (List ℕ)
trail_facts t =
    (codes "place" ++ and_number t.place) ∷ (codes "retained" ++ and_number (retained t)) ∷ []

-- the phase, how many objects are gray, how many entries of the log aren't drained, how many regions wait to be swept, and how
-- many the heap has
abbrev pub collector_facts : HeapState → List (List ℕ)
collector_facts w =
    (codes "phase " ++ phase_word w.phase)
    ∷ (codes "gray" ++ and_number (length w.gray))
    ∷ (codes "undrained" ++ and_number (length w.log - w.drained))
    ∷ (codes "unswept" ++ and_number (length (pending_regions w.regions)))
    ∷ (codes "regions" ++ and_number (length w.regions))
    ∷ []

-- the length of the chronicle, if there is one
abbrev pub chronicle_facts : Option ℕ → List (List ℕ)
chronicle_facts None = []
chronicle_facts (Some n) = (codes "acts" ++ and_number n) ∷ []

-- all facts about a machine, which may have a chronicle of this length
abbrev pub status_facts : Machine → Option ℕ → List (List ℕ)
status_facts m acts =
    trail_facts m.trail ++ (collector_facts m.trail.current ++ chronicle_facts acts)

-- the line of a fact
abbrev pub fact_text : List ℕ → List ℕ
fact_text words = line (codes "row " ++ words)

-- the lines of all facts, and their number
abbrev pub status_text : Machine → Option ℕ → List ℕ
status_text m acts =
    flat_map fact_text (status_facts m acts) ++ count_text (length (status_facts m acts))

-- the answer of `status`
abbrev pub IsStatusText : Machine → Option ℕ → List ℕ → Type 0
IsStatusText m acts text = IsTextOrNoMemory (λ text. text ≡ status_text m acts) text
