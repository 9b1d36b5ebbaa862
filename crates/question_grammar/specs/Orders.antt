-- Lines that change the heap, though they are none of the grammar of sessions: `collect`, `rewind @P`, `forward N`, `forward @P`,
-- and events that name a class or a field.
use Rattle.std.specs.Prelude.{ℕ, List, [], ◌∷◌, codes, Option, Some, None, option_map, option_and_then, if◌then◌else◌}
use Rattle.std.specs.Option.{option_or}
use Rattle.std.specs.Str.{bytes_eq}
use Rattle.heap_world.specs.State.{HeapState}
use Rattle.session_grammar.specs.Grammar.{at_end, number_of_word, words_of_line}
use Rattle.session_grammar.specs.Reads.{DefinesClass}
use Rattle.question_grammar.specs.declared.order.Order.{Order}
use Rattle.question_grammar.specs.declared.order.Order.TheVariants.{Act, Collect, Forward, ForwardTo, RewindTo}
use Rattle.question_grammar.specs.Bookmarks.{Bookmarks}
use Rattle.question_grammar.specs.EventNames.{event_of_words}
use Rattle.question_grammar.specs.Questions.{place_of_word}

-- what is asked to be done with the place that a word names as `@P`
abbrev pub to_place : Bookmarks → (ℕ → Order) → List ℕ → Option Order
to_place b order w =
    option_and_then (λ to. option_map (λ place. order place) to) (place_of_word b w)

-- the rewind to the place that a word names as `@P`
abbrev pub way_back : Bookmarks → List ℕ → Option Order
way_back b w = to_place b RewindTo w

-- the steps forward that a word counts, or those to the place that it names as `@P`
abbrev pub way_on : Bookmarks → List ℕ → Option Order
way_on b w = option_or (option_map (λ n. Forward n) (number_of_word w)) (to_place b ForwardTo w)

-- what a keyword and the word behind it ask to be done
unfoldable pub order_of_two : Bookmarks → List ℕ → List ℕ → Option Order
order_of_two b w v =
    if bytes_eq w (codes "rewind") then way_back b v
    else (if bytes_eq w (codes "forward") then way_on b v else None)

-- what the words ask to be done without a name
unfoldable pub order_of_words : Bookmarks → List (List ℕ) → Option Order
order_of_words b [] = None
order_of_words b (w ∷ []) = if bytes_eq w (codes "collect") then Some Collect else None
order_of_words b (w ∷ v ∷ ws) = option_and_then (λ order. at_end order ws) (order_of_two b w v)

-- what a line asks to be done; an event's names are those of a state
abbrev pub order_in : Bookmarks → HeapState → List ℕ → Option Order
order_in b state l =
    option_or (order_of_words b (words_of_line l))
    (option_map Act (event_of_words state (words_of_line l)))

-- to read this order takes memory: it defines a class
abbrev pub IsDefinition : Order → Type 0
IsDefinition (Act e) = DefinesClass e
IsDefinition _ = ⊥

-- to read this order, if there is one, takes memory
abbrev pub MayTakeMemory : Option Order → Type 0
MayTakeMemory None = ⊥
MayTakeMemory (Some order) = IsDefinition order
