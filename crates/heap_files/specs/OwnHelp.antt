-- The answers of `help` in a session whose lines also run the lines of files and log.
use Rattle.std.specs.Prelude.{ℕ, List, [], ◌∷◌, ◌++◌, codes, Option, Some, None, if◌then◌else◌}
use Rattle.std.specs.Str.{bytes_eq}
use Rattle.session_grammar.specs.Grammar.{words_of_line}
use Rattle.question_text.specs.FileHelp.{file_forms}
use Rattle.question_text.specs.Help.{all_forms, form_with, help_rows}
use Rattle.heap_console.specs.OwnForms.{own_forms}

-- the answer of `help`: a row for each line, for each that writes a file, and for each of these
abbrev pub own_help_text : List ℕ
own_help_text = help_rows all_forms ++ (help_rows file_forms ++ (help_rows own_forms ++ codes "ok\n"))

-- what differs from elsewhere in the answer of `help` and these words
abbrev pub own_help_about : List (List ℕ) → Option (List ℕ)
own_help_about [] = Some own_help_text
own_help_about (w ∷ []) = form_with own_forms w
own_help_about (w ∷ v ∷ ws) = None

-- the same of these words, if the first is `help`
abbrev pub own_help_of_words : List (List ℕ) → Option (List ℕ)
own_help_of_words [] = None
own_help_of_words (w ∷ ws) = if bytes_eq w (codes "help") then own_help_about ws else None

-- the answer of a line that asks for help, if it differs from that elsewhere
abbrev pub own_help_of : List ℕ → Option (List ℕ)
own_help_of l = own_help_of_words (words_of_line l)
