-- Lines of `show` that follow fields from an object, or also show the objects below it.
use Rattle.std.specs.Prelude.{ℕ, List, [], ◌∷◌, nat_le, codes, Option, Some, None, option_map, option_and_then, if◌then◌else◌}
use Rattle.std.specs.Str.{bytes_eq}
use Rattle.session_grammar.specs.Grammar.{at_end, number_of_word, words_of_line}
use Rattle.question_words.specs.declared.at.At.{At}
use Rattle.question_words.specs.declared.ranges.SlotRange.TheVariants.{AllSlots, FromSlot}
use Rattle.question_words.specs.Ids.{id_of_word}
use Rattle.question_grammar.specs.declared.chain.Chain.{Chain}
use Rattle.question_grammar.specs.declared.chain.Extent.{Extent}
use Rattle.question_grammar.specs.declared.chain.Extent.TheVariants.{Levels, Slots}
use Rattle.question_grammar.specs.Bookmarks.{Bookmarks, default_at}
use Rattle.question_grammar.specs.Parts.{parts_of_word}
use Rattle.question_grammar.specs.Questions.{at_of_word}

-- an id, and the fields behind it
abbrev pub id_and_fields : List (List ℕ) → Option (ℕ × List (List ℕ))
id_and_fields [] = None
id_and_fields (w ∷ fields) = option_map (λ x. (x, fields)) (id_of_word w)

-- the id and the fields of a word: `ID.FIELD ..`
abbrev pub fields_from : List ℕ → Option (ℕ × List (List ℕ))
fields_from w = id_and_fields (parts_of_word w)

-- the most levels below an object that are shown
abbrev pub level_limit : ℕ
level_limit = 8

-- the number of levels that a word is
abbrev pub levels_of_word : List ℕ → Option ℕ
levels_of_word w =
    option_and_then (λ n. if nat_le n level_limit then Some n else None) (number_of_word w)

-- what the words ask to be shown: all slots, the levels below, or from the first slot on as many as the second word says
abbrev pub extent_of_words : List (List ℕ) → Option Extent
extent_of_words [] = Some (Slots AllSlots)
extent_of_words (w ∷ []) = option_map (λ n. Levels n) (levels_of_word w)
extent_of_words (w ∷ v ∷ ws) =
    option_and_then
    (λ first. option_and_then (λ n. at_end (Slots (FromSlot first n)) ws) (number_of_word v))
    (number_of_word w)

-- the id, the fields and what the words ask to be shown, about a state
abbrev pub chain_by : At → ℕ × List (List ℕ) → List (List ℕ) → Option Chain
chain_by at from ws =
    option_map (λ extent. record { at = at; id = from.0; fields = from.1; extent = extent })
    (extent_of_words ws)

-- the same; the first word, which may be this id with its fields, may be the state
abbrev pub chain_from : Bookmarks → Option (ℕ × List (List ℕ)) → List ℕ → List (List ℕ)
    → Option Chain
chain_from b (Some from) w ws = chain_by (default_at b) from ws
chain_from b None w [] = None
chain_from b None w (v ∷ ws) =
    option_and_then (λ at. option_and_then (λ from. chain_by at from ws) (fields_from v))
    (at_of_word b w)

-- a state, if it is named, an id with its fields, and what is shown
abbrev pub chain_behind : Bookmarks → List (List ℕ) → Option Chain
chain_behind b [] = None
chain_behind b (w ∷ ws) = chain_from b (fields_from w) w ws

-- the same behind `show`
abbrev pub chain_of_words : Bookmarks → List (List ℕ) → Option Chain
chain_of_words b [] = None
chain_of_words b (w ∷ ws) = if bytes_eq w (codes "show") then chain_behind b ws else None

-- the same of a line
abbrev pub chain_of : Bookmarks → List ℕ → Option Chain
chain_of b l = chain_of_words b (words_of_line l)
