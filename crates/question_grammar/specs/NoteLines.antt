-- Lines that a session notes, `at @P`, `at -` and `name WORD`; and `open` and `open @WORD`.
use Rattle.std.specs.Prelude.{ℕ, ◌&&◌, not, List, [], ◌∷◌, codes, drop, take, is_some, Option, Some, None, option_map, option_and_then, if◌then◌else◌}
use Rattle.std.specs.Str.{bytes_eq}
use Rattle.session_grammar.specs.Grammar.{number_of_word, words_of_line}
use Rattle.question_grammar.specs.Bookmarks.{Bookmarks, is_place_name, place_named}
use Rattle.question_grammar.specs.Questions.{place_of_word}

-- the word behind this keyword, if it is the only one
unfoldable pub word_behind : List ℕ → List (List ℕ) → Option (List ℕ)
word_behind key [] = None
word_behind key (w ∷ []) = None
word_behind key (w ∷ v ∷ []) = if bytes_eq w key then Some v else None
word_behind key (w ∷ v ∷ u ∷ ws) = None

-- the place that these words set, or none for the current one: those of `at @P` or `at -`
abbrev pub place_set_by : Bookmarks → List (List ℕ) → Option (Option ℕ)
place_set_by b ws = option_and_then (λ w. place_of_word b w) (word_behind (codes "at") ws)

-- the same of a line
abbrev pub place_set : Bookmarks → List ℕ → Option (Option ℕ)
place_set b l = place_set_by b (words_of_line l)

-- the word, if it may be a name
abbrev pub name_of_word : List ℕ → Option (List ℕ)
name_of_word w = if is_place_name w then Some w else None

-- the name that these words set: those of `name WORD`
abbrev pub name_set_by : List (List ℕ) → Option (List ℕ)
name_set_by ws = option_and_then (λ w. name_of_word w) (word_behind (codes "name") ws)

-- the same of a line
abbrev pub name_set : List ℕ → Option (List ℕ)
name_set l = name_set_by (words_of_line l)

-- the place that a word names as `@WORD`, if what follows the sign is no number
unfoldable pub place_by_name : Bookmarks → List ℕ → Option ℕ
place_by_name b w =
    if bytes_eq (take 1 w) (codes "@") && not (is_some (number_of_word (drop 1 w)))
    then place_named b.names (drop 1 w) else None

-- the place, or none for the current one, that the words behind `open` name by a name; without a word it is that of the session
abbrev pub place_behind_open : Bookmarks → List (List ℕ) → Option (Option ℕ)
place_behind_open b [] = Some b.at
place_behind_open b (w ∷ []) = option_map Some (place_by_name b w)
place_behind_open b (w ∷ v ∷ ws) = None

-- the place, or none for the current one, on whose state these words open a pin: that of `open` or `open @WORD`; `open AT` is a
-- line of the grammar of sessions
abbrev pub place_opened_by : Bookmarks → List (List ℕ) → Option (Option ℕ)
place_opened_by b [] = None
place_opened_by b (w ∷ ws) =
    if bytes_eq w (codes "open") then place_behind_open b ws else None

-- the same of a line
abbrev pub place_opened : Bookmarks → List ℕ → Option (Option ℕ)
place_opened b l = place_opened_by b (words_of_line l)
