-- What a session notes of places.
use Rattle.std.specs.Prelude.{ℕ, ◌&&◌, ◌||◌, ◌==◌, nat_le, nat_lt, Bool, List, [], ◌∷◌, codes, find, is_some, length, take, Option, Some, None, option_map, if◌then◌else◌}
use Rattle.std.specs.Char.{is_ascii_alphabetic, is_ascii_alphanumeric}
use Rattle.std.specs.List.{list_all, list_any}
use Rattle.std.specs.Str.{bytes_eq}
use Rattle.question_words.specs.declared.at.At.{At}
use Rattle.question_words.specs.declared.at.At.TheVariants.{Current, Place}
use Rattle.question_grammar.specs.declared.bookmarks.PlaceName.{PlaceName}

-- the place that questions without one are about, or none if it is the current one; and the names of places, each once
pub record Bookmarks : Type 0 where
  pub at : Option ℕ
  pub names : List PlaceName

-- those of a session that begins
abbrev pub no_bookmarks : Bookmarks
no_bookmarks = record { at = None; names = [] }

-- the most names of a session
abbrev pub name_limit : ℕ
name_limit = 256

-- the longest name
abbrev pub longest_name : ℕ
longest_name = 64

-- the state at a place; without a place it is the current one
abbrev pub state_at : Option ℕ → At
state_at None = Current
state_at (Some place) = Place place

-- the state that questions are about that name none
abbrev pub default_at : Bookmarks → At
default_at b = state_at b.at

-- the place with this name
unfoldable pub place_named : List PlaceName → List ℕ → Option ℕ
place_named names w = option_map (λ n. n.place) (find (λ n. bytes_eq n.word w) names)

-- whether a byte may stand in a name
abbrev pub is_place_byte : ℕ → Bool
is_place_byte c = is_ascii_alphanumeric c || list_any (λ d. c == d) (codes "_-.")

-- whether a word may be a name: 1 to 64 bytes, the first a letter, so it is no number and no `-`
unfoldable pub is_place_name : List ℕ → Bool
is_place_name w =
    list_any is_ascii_alphabetic (take 1 w)
    && nat_le (length w) longest_name
    && list_all is_place_byte w

-- whether a name can be given to a place: it is given already, or fewer than the most are
abbrev pub has_room : List ℕ → Bookmarks → Bool
has_room w b = is_some (place_named b.names w) || nat_lt (length b.names) name_limit

-- the names, this one of which is given to a place: one that is there keeps its turn, and a new one is the last
abbrev pub with_place : List ℕ → ℕ → List PlaceName → List PlaceName
with_place w place [] = record { word = w; place = place } ∷ []
with_place w place (n ∷ ns) =
    if bytes_eq n.word w then record n { place = place } ∷ ns else n ∷ with_place w place ns

-- a name is given to a place, and to no other any more
abbrev pub with_name : List ℕ → ℕ → Bookmarks → Bookmarks
with_name w place b = record b { names = with_place w place b.names }
