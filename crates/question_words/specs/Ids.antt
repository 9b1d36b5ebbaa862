-- Ids, as lines have them.
use Rattle.std.specs.Prelude.{ℕ, ◌+◌, ◌-◌, ◌*◌, ◌^◌, ◌==◌, ◌&&◌, nat_le, nat_lt, List, [], ◌∷◌, ◌++◌, length, take, drop, codes, Option, Some, None, option_and_then, if◌then◌else◌}
use Rattle.std.specs.Char.{is_ascii_digit}
use Rattle.std.specs.Str.{bytes_eq}
use Rattle.session_text.specs.Endian.{big_bytes}
use Rattle.hex.specs.Hex.{encode_lower}

-- an id: `0x` and 8 lower-case hexadecimal digits
abbrev pub id_text : ℕ → List ℕ
id_text x = codes "0x" ++ encode_lower (big_bytes 4 x)

-- a space and an id
abbrev pub and_id : ℕ → List ℕ
and_id x = 32 ∷ id_text x

-- a space, and an id or `null`
abbrev pub and_reference : ℕ → List ℕ
and_reference x = if x == 0 then codes " null" else and_id x

-- the value of a lower-case hexadecimal digit
abbrev pub hex_digit : ℕ → Option ℕ
hex_digit b =
    if is_ascii_digit b then Some (b - 48)
    else (if nat_le 97 b && nat_le b 102 then Some (b - 87) else None)

-- a number with one more digit, if it stays below 2 ^ 64
abbrev pub with_hex : ℕ → ℕ → Option ℕ
with_hex n d = if nat_lt (n * 16 + d) (2 ^ 64) then Some (n * 16 + d) else None

-- a number with these digits appended
abbrev pub hex_from : ℕ → List ℕ → Option ℕ
hex_from n [] = Some n
hex_from n (b ∷ bs) =
    option_and_then (λ m. hex_from m bs) (option_and_then (λ d. with_hex n d) (hex_digit b))

-- the id that a word is
unfoldable pub id_of_word : List ℕ → Option ℕ
id_of_word w =
    if bytes_eq (take 2 w) (codes "0x") && (length w == 10) then hex_from 0 (drop 2 w) else None
