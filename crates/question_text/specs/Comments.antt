-- Comments.
use Rattle.std.specs.Prelude.{ℕ, List, [], ◌∷◌, Bool, false, take, codes, if◌then◌else◌}
use Rattle.std.specs.Str.{bytes_eq}
use Rattle.session_grammar.specs.Grammar.{words_of_line}
use Rattle.question_text.specs.Help.{help_or_bad}

-- the first of these words begins with `#`
abbrev pub is_comment_words : List (List ℕ) → Bool
is_comment_words [] = false
is_comment_words (w ∷ ws) = bytes_eq (take 1 w) (codes "#")

-- a line whose first word begins with `#`
abbrev pub is_comment : List ℕ → Bool
is_comment l = is_comment_words (words_of_line l)

-- the answer of a line that asks no question: a comment has none
abbrev pub unasked_text : List ℕ → List ℕ
unasked_text l = if is_comment l then [] else help_or_bad l
