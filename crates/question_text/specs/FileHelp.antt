-- The answers of `help` in a session whose lines write files.
use Rattle.std.specs.Prelude.{◌≡◌, ◌⊎◌, ℕ, List, [], ◌∷◌, ◌++◌, codes, Option, Some, None, if◌then◌else◌}
use Rattle.std.specs.Str.{bytes_eq}
use Rattle.heap_class.specs.declared.Refusal.TheVariants.{NoMemory}
use Rattle.session_grammar.specs.Grammar.{words_of_line}
use Rattle.session_text.specs.Replies.{line_answer_text}
use Rattle.session_text.specs.declared.commands.LineAnswer.{LineAnswer}
use Rattle.question_words.specs.Moments.{refused_text}
use Rattle.question_text.specs.Help.{LineForm, all_forms, form_of, form_with, help_rows}

-- lines that write files
unfoldable pub file_forms : List LineForm
file_forms =
    form_of (codes "write") (codes "write [AT] PATH") (codes "write heap.hprof")
    (codes "writes the dump of a state to a new file")
    ∷ form_of (codes "draw") (codes "draw [AT] PATH") (codes "draw heap.svg")
    (codes "writes a picture of the regions to a new file")
    ∷ []

-- the answer of `help`: a row for each line, and for each that writes a file
abbrev pub file_help_text : List ℕ
file_help_text = help_rows all_forms ++ (help_rows file_forms ++ codes "ok\n")

-- what differs from elsewhere in the answer of `help` and these words
abbrev pub file_help_about : List (List ℕ) → Option (List ℕ)
file_help_about [] = Some file_help_text
file_help_about (w ∷ []) = form_with file_forms w
file_help_about (w ∷ v ∷ ws) = None

-- the same of these words, if the first is `help`
abbrev pub file_help_of_words : List (List ℕ) → Option (List ℕ)
file_help_of_words [] = None
file_help_of_words (w ∷ ws) = if bytes_eq w (codes "help") then file_help_about ws else None

-- the answer of a line that asks for help, if it differs from that elsewhere
abbrev pub file_help_of : List ℕ → Option (List ℕ)
file_help_of l = file_help_of_words (words_of_line l)

-- this is the answer, or memory for it was refused; or the answer is that elsewhere
abbrev pub IsFileHelp : Option (List ℕ) → Option LineAnswer → Type 0
IsFileHelp None answer = answer ≡ None
IsFileHelp (Some help) None = ⊥
IsFileHelp (Some help) (Some answer) =
    (line_answer_text answer ≡ help) ⊎ (line_answer_text answer ≡ refused_text NoMemory)
