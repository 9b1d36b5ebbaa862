-- Where a search finds the first LF.
use Rattle.std.proofs.Common.{◌≡◌, ℕ, ◌+◌, ◌-◌, ◌<◌, ◌≤◌, false, List, None, Some, take, drop, length, get_or, sym, subst, ◌∙◌, arith}
use Rattle.std.specs.Bool.{◌==◌}
use Rattle.std.proofs.Math.Seq.{take-add}
use Rattle.std.proofs.lemmas.Bool.{false_from_ne_true, eqb-true}
use Rattle.std.proofs.lemmas.List.{take-append-drop, take_all, length-drop, length-take-le, get_or-drop, get_or-take}
use Rattle.std.proofs.lemmas.List.Elements.{All-append, All-from_get_or}
use Rattle.memchr.specs.Find.{IsFirstByte, Nowhere, Passes, is_byte}
use Rattle.session_grammar.specs.Lines.{NoLf, IsLineAt}
use Rattle.session_text.proofs.Lists.{list_split_at_line_feed}

-- bytes among which a search found none
no_lf_to : (xs : List ℕ) (n : ℕ) → n ≤ length xs → Nowhere (Passes (is_byte 10) xs) 0 n → NoLf (take n xs)
no_lf_to xs n le none =
    let size = length-take-le n xs le in
    All-from_get_or (λ b. (b == 10) ≡ false) (take n xs) 0 (λ i lt. let less : i < n = omega (arith, lt, size) in rw (get_or-take n xs i 0 less) (false_from_ne_true _ (none i (omega arith) less)))

-- what lies behind a place, as a slice has it
abbrev bytes_behind_place : List ℕ → ℕ → List ℕ
bytes_behind_place xs from = take (length xs - from) (drop from xs)

bytes_behind_are_dropped : (xs : List ℕ) (from : ℕ) → bytes_behind_place xs from ≡ drop from xs
bytes_behind_are_dropped xs from = take_all (length xs - from) (drop from xs) (omega (arith, length-drop from xs))

-- no LF was found behind a place before which there is none
pub no_line_feed_behind_place : (xs : List ℕ) (from : ℕ) → NoLf (take from xs) → IsFirstByte (is_byte 10) (bytes_behind_place xs from) None → NoLf xs
no_line_feed_behind_place xs from before found =
    let rest = drop from xs in
    let none = subst (λ l. IsFirstByte (is_byte 10) l None) (bytes_behind_are_dropped xs from) found in
    let part = subst (λ l. NoLf l) (take_all (length rest) rest (omega arith)) (no_lf_to rest (length rest) (omega arith) none) in
    subst (λ l. NoLf l) (take-append-drop from xs) (All-append (λ b. (b == 10) ≡ false) (take from xs) rest before part)

-- an LF was found behind a place before which there is none
pub line_behind : (xs : List ℕ) (from k : ℕ) → from ≤ length xs → NoLf (take from xs) → IsFirstByte (is_byte 10) (bytes_behind_place xs from) (Some k) → IsLineAt (from + k) xs
line_behind xs from k le before found =
    let rest = drop from xs in
    let at = subst (λ l. IsFirstByte (is_byte 10) l (Some k)) (bytes_behind_are_dropped xs from) found in
    let less : from + k < length xs = omega (arith, at.0.high, length-drop from xs, le) in
    let part = no_lf_to rest k (omega (arith, at.0.high)) at.0.before in (
      less,
      subst (λ l. NoLf l) (sym (take-add from k xs)) (All-append (λ b. (b == 10) ≡ false) (take from xs) (take k rest) before part),
      list_split_at_line_feed xs (from + k) less (sym (get_or-drop from xs k 0) ∙ eqb-true (get_or rest k 0) 10 at.1),
    )
