-- Lines that write files: `write [AT] PATH` and `draw [AT] PATH`.
use Rattle.std.specs.Prelude.{ℕ, List, [], ◌∷◌, codes, Option, Some, None, option_map, if◌then◌else◌}
use Rattle.std.specs.Str.{bytes_eq}
use Rattle.session_grammar.specs.Grammar.{words_of_line}
use Rattle.question_words.specs.declared.at.At.{At}
use Rattle.question_grammar.specs.declared.file_line.FileContent.{FileContent}
use Rattle.question_grammar.specs.declared.file_line.FileContent.TheVariants.{DumpOf, PictureOf}
use Rattle.question_grammar.specs.Bookmarks.{Bookmarks, default_at}
use Rattle.question_grammar.specs.Questions.{at_of_word}

-- the state that is named, or that of the session, and the path
abbrev pub at_and_path : Bookmarks → List (List ℕ) → Option (At × List ℕ)
at_and_path b [] = None
at_and_path b (path ∷ []) = Some (default_at b, path)
at_and_path b (w ∷ path ∷ []) = option_map (λ at. (at, path)) (at_of_word b w)
at_and_path b (w ∷ path ∷ v ∷ ws) = None

-- what the words behind a keyword ask to be written to a file
unfoldable pub file_by : Bookmarks → List ℕ → List (List ℕ) → Option (FileContent × List ℕ)
file_by b w ws =
    if bytes_eq w (codes "write") then option_map (λ f. (DumpOf f.0, f.1)) (at_and_path b ws)
    else (if bytes_eq w (codes "draw")
    then option_map (λ f. (PictureOf f.0, f.1)) (at_and_path b ws)
    else None)

-- the same, of which the keyword is the first word
abbrev pub file_of_words : Bookmarks → List (List ℕ) → Option (FileContent × List ℕ)
file_of_words b [] = None
file_of_words b (w ∷ ws) = file_by b w ws

-- what a line asks to be written, and the path of the file
abbrev pub file_of : Bookmarks → List ℕ → Option (FileContent × List ℕ)
file_of b l = file_of_words b (words_of_line l)
