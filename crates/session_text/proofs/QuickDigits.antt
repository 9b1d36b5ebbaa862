-- Numbers of one digit.
use Rattle.std.proofs.Common.{◌≡◌, ℕ, ◌+◌, ◌-◌, ◌<◌, ◌≤◌, List, take, drop, length, get_or, sym, ap, subst, ◌∙◌, arith}
use Rattle.std.specs.Char.{is_ascii_digit}
use Rattle.std.proofs.lemmas.List.{get_or-drop, length-drop, take_all}
use Rattle.session_grammar.specs.Reads.{IsReadIn, IsNumberThen}
use Rattle.session_grammar.proofs.NumberDigits.{read_in_one, read_digits_are_number_then}
use Rattle.session_text.specs.Mutators.{IsDigitThen}

-- a digit of the text from `from` on, at the place `at` of the whole text
pub digit_number_in_whole_text : (t : List ℕ) (from i at ender end value : ℕ) → from + i ≡ at → at + 1 ≡ end → from ≤ length t → IsDigitThen (take (length t - from) (drop from t)) i ender value → IsNumberThen t at ender value end
digit_number_in_whole_text t from i at ender end value here next le h =
    let r = take (length t - from) (drop from t) in
    let rest : r ≡ drop from t = take_all (length t - from) (drop from t) (omega (arith, length-drop from t)) in
    let get : (k : ℕ) → get_or r k 0 ≡ get_or t (from + k) 0 = λ k. ap (λ l. get_or l k 0) rest ∙ get_or-drop from t k 0 in
    let lt : at + 1 < length t = omega (arith, h.0, ap length rest, length-drop from t, here) in
    let digit : get_or r i 0 ≡ get_or t at 0 = get i ∙ ap (λ k. get_or t k 0) here in
    let behind : from + (i + 1) ≡ at + 1 = omega (arith, here) in
    let follower : get_or t (at + 1) 0 ≡ ender = sym (get (i + 1) ∙ ap (λ k. get_or t k 0) behind) ∙ h.2 in
    let one = read_in_one t at (omega (arith, lt)) (ap is_ascii_digit (sym digit) ∙ h.1.0) in
    let same : get_or t at 0 - 48 ≡ value = ap (λ b. b - 48) (sym digit) ∙ sym h.1.1 in
    subst (λ e. IsNumberThen t at ender value e) next (read_digits_are_number_then t at ender value 1 (subst (λ v. IsReadIn t at v 1) same one) (λ e. omega (arith, e)) follower)
