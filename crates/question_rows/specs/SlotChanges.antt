-- The text of `watch`.
use Rattle.std.specs.Prelude.{◌≡◌, ◌⊎◌, ℕ, Bool, List, ◌++◌, codes, flat_map, length, None, IsSome, if◌then◌else◌}
use Rattle.heap_class.specs.declared.ObjRef.{ObjRef}
use Rattle.heap_class.specs.declared.Refusal.TheVariants.{BadSlot}
use Rattle.heap_trail.specs.Trail.{Trail}
use Rattle.heap_questions.specs.declared.past.slots.SlotChange.{SlotChange}
use Rattle.heap_questions.specs.Changes.{slot_word}
use Rattle.heap_questions.specs.SlotChanges.{IsWatched, refers_at}
use Rattle.session_text.specs.Replies.{and_number, line}
use Rattle.question_words.specs.Ids.{and_reference}
use Rattle.question_words.specs.Moments.{refused_text}
use Rattle.question_words.specs.Places.{IsAboutObject, IsTextOrNoMemory}
use Rattle.question_words.specs.Rows.{count_text}

-- a word: an id or `null` if it is a reference, else a number
abbrev pub and_word : Bool → ℕ → List ℕ
and_word refers word = if refers then and_reference word else and_number word

-- the line of a change: its place, and the words before and after it
unfoldable pub change_line : Bool → SlotChange → List ℕ
change_line refers c =
    line (((codes "row" ++ and_number c.place) ++ and_word refers c.old) ++ and_word refers c.new)

-- the lines of some changes, and their number
abbrev pub changes_text : Bool → List SlotChange → List ℕ
changes_text refers changes = flat_map (change_line refers) changes ++ count_text (length changes)

-- the text is the lines of all changes of a slot of the object at a place, the oldest first, and their number
abbrev pub IsChangesText : Trail → ObjRef → ℕ → List ℕ → Type 0
IsChangesText t at s text =
    (changes : List SlotChange) × IsWatched t at s changes
    × (text ≡ changes_text (refers_at t.current at s) changes)

-- the same, if the object has the slot
abbrev pub IsSlotChangesText : Trail → ℕ → ObjRef → List ℕ → Type 0
IsSlotChangesText t s at text =
    (IsSome (slot_word t.current at s) × IsTextOrNoMemory (IsChangesText t at s) text)
    ⊎ ((slot_word t.current at s ≡ None) × (text ≡ refused_text BadSlot))

-- the answer of `watch`
abbrev pub IsWatchText : ℕ → ℕ → Trail → List ℕ → Type 0
IsWatchText x s t text = IsAboutObject (IsSlotChangesText t s) t.current x text
