-- Lines that begin an HTTP request.
use Rattle.std.specs.Prelude.{ℕ, ◌-◌, ◌==◌, ◌&&◌, Bool, false, List, [], ◌∷◌, length, take, drop, slice_index, nat_le, codes, Option, Some, None, option_map, if◌then◌else◌}
use Rattle.std.specs.Option.{option_map_or}
use Rattle.std.specs.Str.{bytes_eq}
use Rattle.session_grammar.specs.Grammar.{without_cr}

-- the number of bytes of ` HTTP/1.` and a digit
abbrev pub version_size : ℕ
version_size = 9

-- the byte is a decimal digit
abbrev pub is_digit : ℕ → Bool
is_digit b = nat_le 48 b && nat_le b 57

-- the line ends in ` HTTP/1.` and a digit
abbrev pub is_request_line : List ℕ → Bool
is_request_line l =
    nat_le version_size (length l)
    && (bytes_eq (take 8 (drop (length l - version_size) l)) (codes " HTTP/1.")
    && is_digit (slice_index l (length l - 1)))

-- the first line without its LF, or None if none is whole
abbrev pub first_line : List ℕ → Option (List ℕ)
first_line [] = None
first_line (b ∷ bytes) =
    if b == 10 then Some [] else option_map (λ l. b ∷ l) (first_line bytes)

-- the line, without its LF, has at most `most` bytes and begins an HTTP request
abbrev pub is_request : ℕ → List ℕ → Bool
is_request most l = nat_le (length l) most && is_request_line (without_cr l)

-- the first line, if it is whole and has at most `most` bytes, begins an HTTP request
abbrev pub asks_http : ℕ → List ℕ → Bool
asks_http most bytes = option_map_or (is_request most) (first_line bytes) false
