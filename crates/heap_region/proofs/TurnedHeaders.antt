-- What a change of the headers that are kept leaves of those that are shown.
use Rattle.std.proofs.Common.{◌≡◌, ℕ, zero, suc, Bool, List, [], ◌∷◌, map, Option, Some, None, IsSome, option_map, get_or, set, refl, sym, ap, ◌∙◌, replicate}
use Rattle.std.proofs.lemmas.List.{map-set}
use Rattle.heap_region.specs.declared.cell.Bit.{Bit}
use Rattle.heap_region.specs.declared.cell.Header.{Header}
use Rattle.heap_region.specs.declared.turn.Turn.{Turn}
use Rattle.heap_region.specs.Layout.{with_bit}
use Rattle.heap_region.specs.TurnedHeaders.{shown_header, shown_headers}

shown_header_at_cell : (t : Turn) (hs : List (Option Header)) (cell : ℕ) → get_or (shown_headers t hs) cell None ≡ option_map (shown_header t) (get_or hs cell None)
shown_header_at_cell t [] cell = refl
shown_header_at_cell t (h ∷ hs) zero = refl
shown_header_at_cell t (h ∷ hs) (suc cell) = shown_header_at_cell t hs cell

-- a header is written
pub header_set : (t : Turn) (hs : List (Option Header)) (cell : ℕ) (kept h : Header) → shown_header t kept ≡ h → shown_headers t (set hs cell (Some kept)) ≡ set (shown_headers t hs) cell (Some h)
header_set t hs cell kept h is = map-set (option_map (shown_header t)) hs cell (Some kept) ∙ ap (λ (x : Header). set (shown_headers t hs) cell (Some x)) is

-- a bit is written
pub bit_shown : (t : Turn) (hs : List (Option Header)) (cell : ℕ) (kept bit : Bit) (kept_on on : Bool) → ((h : Header) → shown_header t (with_bit kept kept_on h) ≡ with_bit bit on (shown_header t h))
    → shown_headers t (set hs cell (option_map (with_bit kept kept_on) (get_or hs cell None))) ≡ set (shown_headers t hs) cell (option_map (with_bit bit on) (get_or (shown_headers t hs) cell None))
bit_shown t hs cell kept bit kept_on on is =
    map-set (option_map (shown_header t)) hs cell (option_map (with_bit kept kept_on) (get_or hs cell None))
    ∙ ap (set (shown_headers t hs) cell) (go (get_or hs cell None) ∙ ap (option_map (with_bit bit on)) (sym (shown_header_at_cell t hs cell)))
  where
    go : (x : Option Header) → option_map (shown_header t) (option_map (with_bit kept kept_on) x) ≡ option_map (with_bit bit on) (option_map (shown_header t) x)
    go None = refl
    go (Some h) = ap Some (is h)

-- a header that is shown is kept
pub shown_header_is_kept : (t : Turn) (hs : List (Option Header)) (cell : ℕ) → IsSome (get_or (shown_headers t hs) cell None) → IsSome (get_or hs cell None)
shown_header_is_kept t hs cell some = go (get_or hs cell None) (rw (shown_header_at_cell t hs cell) at some)
  where
    go : (x : Option Header) → IsSome (option_map (shown_header t) x) → IsSome x
    go None none = none
    go (Some h) is = refl

-- each header is shown at another turn
pub headers_shown_at_other_turn : (t u : Turn) (f : Header → Header) → ((h : Header) → shown_header u h ≡ f (shown_header t h)) → (hs : List (Option Header)) → shown_headers u hs ≡ map (option_map f) (shown_headers t hs)
headers_shown_at_other_turn t u f is [] = refl
headers_shown_at_other_turn t u f is (None ∷ hs) = ap (λ (l : List (Option Header)). None ∷ l) (headers_shown_at_other_turn t u f is hs)
headers_shown_at_other_turn t u f is (Some h ∷ hs) = λ i. Some (is h i) ∷ headers_shown_at_other_turn t u f is hs i

-- no header is kept where none is shown
pub no_header_kept_unless_shown : (t : Turn) (hs : List (Option Header)) → shown_headers t hs ≡ [] → hs ≡ []
no_header_kept_unless_shown t [] e = refl
no_header_kept_unless_shown t (h ∷ hs) e = cc

-- free cells are shown as they are kept
pub vacant_shown : (t : Turn) (n : ℕ) → shown_headers t (replicate n None) ≡ replicate n None
vacant_shown t zero = refl
vacant_shown t (suc n) = ap (λ (l : List (Option Header)). None ∷ l) (vacant_shown t n)
