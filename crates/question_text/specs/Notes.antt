-- What a session answers lines that ask for nothing to be done: those that it notes, questions, and others.
use Rattle.std.specs.Prelude.{◌≡◌, ◌⊎◌, ℕ, Bool, true, false, List, codes, unwrap_or, Option, Some, None, Result, Ok, Err}
use Rattle.heap_class.specs.declared.Refusal.{Refusal}
use Rattle.heap_class.specs.declared.Refusal.TheVariants.{NoMemory}
use Rattle.heap_trail.specs.Machine.{Machine}
use Rattle.heap_trail.specs.Trail.{Trail}
use Rattle.question_grammar.specs.Bookmarks.{Bookmarks, has_room, with_name}
use Rattle.question_grammar.specs.NoteLines.{name_set, place_set}
use Rattle.question_words.specs.Moments.{refused_text, steps_ago}
use Rattle.question_words.specs.Places.{place_text}
use Rattle.question_text.specs.Answers.{IsAnswerOfLine}

-- the line of a name beyond those that a session may have
abbrev pub name_limit_text : List ℕ
name_limit_text = codes "no 30 NameLimit\n"

-- what changes the bookmarks of a session, and is answered with a text
abbrev pub Notes : Type 1
Notes = Bookmarks → List ℕ → Bookmarks → Type 0

-- the place of questions that name no state is set, if its state is retained, which was current `ago` steps ago; or it isn't set
abbrev pub SetsPlaceBy : Result ℕ Refusal → Option ℕ → Trail → Notes
SetsPlaceBy (Ok ago) to t b text b' =
    (text ≡ place_text (unwrap_or to t.place)) × (b' ≡ record b { at = to })
SetsPlaceBy (Err e) to t b text b' = (text ≡ refused_text e) × (b' ≡ b)

-- the same; without a place it is the current one
abbrev pub SetsPlace : Option ℕ → Trail → Notes
SetsPlace to t b text b' = SetsPlaceBy (steps_ago to t) to t b text b'

-- a name is given to a place, or memory for it was refused; or there is no room for it
abbrev pub SetsNameIf : Bool → List ℕ → ℕ → Notes
SetsNameIf true w place b text b' =
    ((text ≡ place_text place) × (b' ≡ with_name w place b))
    ⊎ ((text ≡ refused_text NoMemory) × (b' ≡ b))
SetsNameIf false w place b text b' = (text ≡ name_limit_text) × (b' ≡ b)

-- the same
abbrev pub SetsName : List ℕ → ℕ → Notes
SetsName w place b text b' = SetsNameIf (has_room w b) w place b text b'

-- a line sets the place of questions, or a name of the current place; or it sets nothing, and is answered as a question
abbrev pub NotesBy : Option (Option ℕ) → Option (List ℕ) → List ℕ → Machine → Option ℕ → Notes
NotesBy (Some to) name l m acts b text b' = SetsPlace to m.trail b text b'
NotesBy None (Some w) l m acts b text b' = SetsName w m.trail.place b text b'
NotesBy None None l m acts b text b' = IsAnswerOfLine l m acts b text × (b' ≡ b)

-- what a line that asks for nothing to be done makes of the bookmarks, and its answer about a machine, which may have a chronicle
-- of this length
abbrev pub NotesLine : List ℕ → Machine → Option ℕ → Notes
NotesLine l m acts b text b' = NotesBy (place_set b l) (name_set l) l m acts b text b'
