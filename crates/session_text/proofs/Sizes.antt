-- How long texts are, and how digits follow one another.
use Rattle.std.proofs.Common.{◌≡◌, ℕ, ◌*◌, ◌/◌, ◌%◌, ◌<◌, ◌≤◌, ◌^◌, List, [], ◌∷◌, ◌++◌, length, refl, ap, slice_index, arith, length-append}
use Rattle.std.specs.Prelude.{decimal}
use Rattle.std.proofs.lemmas.Fmt.{length-decimal-le}
use Rattle.hex.specs.Hex.{encode_lower, encode_with, lower_digits}
use Rattle.hex.proofs.HexLemmas.{length-encode_with}

pub length-hex : (xs : List ℕ) → length (encode_lower xs) ≡ 2 * length xs
length-hex xs = length-encode_with lower_digits xs

-- the digits of two runs of bytes
pub hex-append : (xs ys : List ℕ) → encode_lower (xs ++ ys) ≡ encode_lower xs ++ encode_lower ys
unfolding encode_with
hex-append [] ys = refl
hex-append (b ∷ rest) ys =
    ap (λ l. slice_index lower_digits (b / 16) ∷ slice_index lower_digits (b % 16) ∷ l) (hex-append rest ys)

pub length-number : (n : ℕ) → n < 2 ^ 64 → length (decimal n) ≤ 20
length-number n h = length-decimal-le 20 n (omega arith) (omega (arith, h)) h

pub ruleset sizes = (length-hex, length-append)
