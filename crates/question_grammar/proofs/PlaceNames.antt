-- Names that are given to places.
use Rattle.std.proofs.Common.{◌≡◌, ◌∙◌, ◌<◌, ℕ, zero, suc, Bool, true, false, cond, List, [], ◌∷◌, ◌++◌, Option, Some, None, length, refl, sym, ap, ap₂, arith}
use Rattle.std.specs.Prelude.{find, get_or, nat_lt, set, slice_get, slice_index_or, slice_set}
use Rattle.std.specs.List.{position, position_or_len}
use Rattle.std.specs.Str.{bytes_eq}
use Rattle.std.proofs.lemmas.Bool.{ltb-false}
use Rattle.std.proofs.lemmas.List.Folds.{find_at}
use Rattle.std.proofs.lemmas.List.Quantifiers.{position-Some}
use Rattle.std.proofs.lemmas.Option.{slice_get_past}
use Rattle.question_grammar.specs.Bookmarks.{with_place}
use Rattle.question_grammar.specs.declared.bookmarks.PlaceName.{PlaceName}

-- this is the name
abbrev pub is_named : List ℕ → PlaceName → Bool
is_named w n = bytes_eq n.word w

-- the first with this name takes the place
there_at : (w : List ℕ) (place : ℕ) (names : List PlaceName) (i : ℕ) (d : PlaceName) → i < length names → is_named w (get_or names i d) ≡ true → ((k : ℕ) → k < i → is_named w (get_or names k d) ≡ false)
    → with_place w place names ≡ set names i (record (get_or names i d) { place = place })
there_at w place [] i d l is others = absurd (omega (arith, l))
there_at w place (n ∷ ns) zero d l is others = ap (λ b. cond b (record n { place = place } ∷ ns) (n ∷ with_place w place ns)) is
there_at w place (n ∷ ns) (suc i) d l is others =
    let fewer : i < length ns = omega (arith, l) in
    ap (λ b. cond b (record n { place = place } ∷ ns) (n ∷ with_place w place ns)) (others 0 (omega arith))
    ∙ ap (λ ms. n ∷ ms) (there_at w place ns i d fewer is (λ k m. let more : suc k < suc i = omega (arith, m) in others (suc k) more))

pub named_there : (w : List ℕ) (place : ℕ) (names : List PlaceName) (i : ℕ) (d : PlaceName) → position (is_named w) names ≡ Some i → with_place w place names ≡ set names i (record (get_or names i d) { place = place })
named_there w place names i d h = let p = position-Some (is_named w) names i d h in there_at w place names i d p.0 p.1 p.2

-- none has the name
new_at_end : (w : List ℕ) (place : ℕ) (names : List PlaceName) → find (is_named w) names ≡ None → with_place w place names ≡ names ++ record { word = w; place = place } ∷ []
new_at_end w place [] h = refl
new_at_end w place (n ∷ ns) h = go (is_named w n) h (new_at_end w place ns)
  where
    go : (b : Bool) → cond b (Some n) (find (is_named w) ns) ≡ None → (find (is_named w) ns ≡ None → with_place w place ns ≡ ns ++ record { word = w; place = place } ∷ [])
        → cond b (record n { place = place } ∷ ns) (n ∷ with_place w place ns) ≡ n ∷ (ns ++ record { word = w; place = place } ∷ [])
    go true h more = absurd (cc h)
    go false h more = ap (λ ms. n ∷ ms) (more h)

none_found : (w : List ℕ) (names : List PlaceName) → position (is_named w) names ≡ None → find (is_named w) names ≡ None
none_found w names h = find_at (is_named w) names ∙ go (nat_lt (position_or_len (is_named w) names) (length names)) refl h
  where
    go : (b : Bool) → nat_lt (position_or_len (is_named w) names) (length names) ≡ b → cond b (Some (position_or_len (is_named w) names)) None ≡ None → slice_get names (position_or_len (is_named w) names) ≡ None
    go true e h = absurd (cc h)
    go false e h = slice_get_past names (position_or_len (is_named w) names) (ltb-false (position_or_len (is_named w) names) (length names) e)

pub named_new : (w : List ℕ) (place : ℕ) (names : List PlaceName) → position (is_named w) names ≡ None → with_place w place names ≡ names ++ record { word = w; place = place } ∷ []
named_new w place names h = new_at_end w place names (none_found w names h)

-- the same of a word and a list that were looked through
pub found_takes_place : (w v : List ℕ) (place : ℕ) (names ms : List PlaceName) (i : ℕ) (d : PlaceName) (o : Option ℕ) → v ≡ w → ms ≡ names → o ≡ position (is_named v) ms → o ≡ Some i → d ≡ slice_index_or names i d
    → slice_set names i (record d { place = place }) ≡ with_place w place names
found_takes_place w v place names ms i d o word list value is at =
    let found : position (is_named w) names ≡ Some i = sym (ap₂ (λ (x : List ℕ) (l : List PlaceName). position (is_named x) l) word list) ∙ sym value ∙ is in
    ap (λ (x : PlaceName). slice_set names i (record x { place = place })) at ∙ sym (named_there w place names i d found)

pub new_takes_place : (w v : List ℕ) (place : ℕ) (names ms : List PlaceName) (o : Option ℕ) → v ≡ w → ms ≡ names → o ≡ position (is_named v) ms → o ≡ None
    → names ++ record { word = w; place = place } ∷ [] ≡ with_place w place names
new_takes_place w v place names ms o word list value is =
    let none : position (is_named w) names ≡ None = sym (ap₂ (λ (x : List ℕ) (l : List PlaceName). position (is_named x) l) word list) ∙ sym value ∙ is in
    sym (named_new w place names none)
