-- The first line of some bytes.
use Rattle.std.proofs.Common.{◌≡◌, ◌∙◌, ◌<◌, ◌≤◌, ℕ, ◌+◌, Bool, true, false, List, [], ◌∷◌, ◌++◌, length, take, drop, Option, Some, None, refl, ap, arith}
use Rattle.std.specs.Prelude.{◌==◌, ◌&&◌, nat_le, option_map, if◌then◌else◌}
use Rattle.std.proofs.lemmas.Bool.{le-leb, lt-leb}
use Rattle.std.proofs.lemmas.List.{length-take-le}
use Rattle.session_grammar.specs.Grammar.{without_cr}
use Rattle.std.specs.Option.{option_map_or}
use Rattle.std.proofs.lemmas.List.Elements.{All-head, All-tail}
use Rattle.session_grammar.specs.Lines.{IsLineAt, NoLf}
use Rattle.heap_server.specs.Http.{asks_http, first_line, is_request, is_request_line}

-- what stands before an LF is the first line
bytes_before_feed_are_line : (l rest : List ℕ) → NoLf l → first_line (l ++ 10 ∷ rest) ≡ Some l
bytes_before_feed_are_line [] rest none = refl
bytes_before_feed_are_line (b ∷ l) rest none =
    let isnt : (b == 10) ≡ false = All-head (λ x. (x == 10) ≡ false) b l none in
    ap (λ (c : Bool). if c then Some [] else option_map (λ l. b ∷ l) (first_line (l ++ 10 ∷ rest))) isnt
    ∙ ap (λ (o : Option (List ℕ)). option_map (λ l. b ∷ l) o) (bytes_before_feed_are_line l rest (All-tail (λ x. (x == 10) ≡ false) b l none))

bytes_without_feed_no_first_line : (l : List ℕ) → NoLf l → first_line l ≡ None
bytes_without_feed_no_first_line [] none = refl
bytes_without_feed_no_first_line (b ∷ l) none =
    let isnt : (b == 10) ≡ false = All-head (λ x. (x == 10) ≡ false) b l none in
    ap (λ (c : Bool). if c then Some [] else option_map (λ l. b ∷ l) (first_line l)) isnt
    ∙ ap (λ (o : Option (List ℕ)). option_map (λ l. b ∷ l) o) (bytes_without_feed_no_first_line l (All-tail (λ x. (x == 10) ≡ false) b l none))

pub bytes_without_feed_ask_no_http : (most : ℕ) (l : List ℕ) → NoLf l → asks_http most l ≡ false
bytes_without_feed_ask_no_http most l none = ap (λ (o : Option (List ℕ)). option_map_or (is_request most) o false) (bytes_without_feed_no_first_line l none)

pub line_at_is_first_line : (n : ℕ) (bytes : List ℕ) → IsLineAt n bytes → first_line bytes ≡ Some (take n bytes)
line_at_is_first_line n bytes at = ap first_line at.2 ∙ bytes_before_feed_are_line (take n bytes) (drop (n + 1) bytes) at.1

pub http_asked_by_line_at : (most n : ℕ) (bytes : List ℕ) → IsLineAt n bytes → asks_http most bytes ≡ is_request most (take n bytes)
http_asked_by_line_at most n bytes at = ap (λ (o : Option (List ℕ)). option_map_or (is_request most) o false) (line_at_is_first_line n bytes at)

-- a line that isn't too long, and one that is
pub asks_line : (most n : ℕ) (bytes : List ℕ) → IsLineAt n bytes → n ≤ most → asks_http most bytes ≡ is_request_line (without_cr (take n bytes))
asks_line most n bytes at le =
    let size : length (take n bytes) ≡ n = length-take-le n bytes (omega (arith, at.0)) in
    let fits : nat_le (length (take n bytes)) most ≡ true = le-leb (length (take n bytes)) most (omega (arith, size, le)) in
    http_asked_by_line_at most n bytes at ∙ ap (λ c. c && is_request_line (without_cr (take n bytes))) fits

pub long_line_asks_no_http : (most n : ℕ) (bytes : List ℕ) → IsLineAt n bytes → most < n → asks_http most bytes ≡ false
long_line_asks_no_http most n bytes at lt =
    let size : length (take n bytes) ≡ n = length-take-le n bytes (omega (arith, at.0)) in
    let over : nat_le (length (take n bytes)) most ≡ false = lt-leb (length (take n bytes)) most (omega (arith, size, lt)) in
    http_asked_by_line_at most n bytes at ∙ ap (λ c. c && is_request_line (without_cr (take n bytes))) over
