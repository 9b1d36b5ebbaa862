-- The first word of a text, byte by byte.
use Rattle.std.proofs.Common.{◌≡◌, ap, refl, sym, ℕ, ◌+◌, ◌<◌, ◌≤◌, true, false, cond, List, [], ◌∷◌, take, drop, length, get_or, Option, Some, None, arith, add-one, drop-cons, ◌==◌}
use Rattle.std.specs.Prelude.{not, suc, option_map, unwrap_or}
use Rattle.std.proofs.lemmas.List.{length-take-le}
use Rattle.std.proofs.lemmas.List.Sums.{prefix_len-le-length}
use Rattle.session_grammar.specs.Reads.{word_size, first_word, with_size}

pub word_size_at_space : (b : ℕ) (t : List ℕ) → (b == 32) ≡ true → word_size (b ∷ t) ≡ 0
word_size_at_space b t e = ap (λ v. cond (not v) (1 + word_size t) 0) e

pub word_size_past_other_byte : (b : ℕ) (t : List ℕ) → (b == 32) ≡ false → word_size (b ∷ t) ≡ suc (word_size t)
word_size_past_other_byte b t e = let n : word_size (b ∷ t) ≡ 1 + word_size t = ap (λ v. cond (not v) (1 + word_size t) 0) e in omega (arith, n)

pub first_word_at_space : (b : ℕ) (t : List ℕ) → (b == 32) ≡ true → first_word (b ∷ t) ≡ []
first_word_at_space b t e = ap (λ n. take n (b ∷ t)) (word_size_at_space b t e)

pub first_word_keeps_other_byte : (b : ℕ) (t : List ℕ) → (b == 32) ≡ false → first_word (b ∷ t) ≡ b ∷ first_word t
first_word_keeps_other_byte b t e = ap (λ n. take n (b ∷ t)) (word_size_past_other_byte b t e)

pub word_size_within_text : (t : List ℕ) → word_size t ≤ length t
word_size_within_text t = prefix_len-le-length _ t

pub first_word_has_word_size : (t : List ℕ) → length (first_word t) ≡ word_size t
first_word_has_word_size t = length-take-le (word_size t) t (word_size_within_text t)

-- what was read of the first word, and its size
pub some_with_size_is_read : {A : Type 0} (t : List ℕ) (o : Option A) (x : A) (n : ℕ) → Some (x, n) ≡ with_size t o → (o ≡ Some x) × (n ≡ word_size t)
some_with_size_is_read t None x n e = cc
some_with_size_is_read t (Some y) x n e = (ap (λ r. option_map (λ p. p.0) r) (sym e), ap (λ r. unwrap_or (option_map (λ p. p.1) r) 0) e)

pub none_with_size_is_none : {A : Type 0} (t : List ℕ) (o : Option A) → None ≡ with_size t o → o ≡ None
none_with_size_is_none t None e = refl
none_with_size_is_none t (Some x) e = cc

-- a text at a place
pub drop_at_is_byte_and_rest : (t : List ℕ) (i : ℕ) → i < length t → drop i t ≡ get_or t i 0 ∷ drop (i + 1) t
drop_at_is_byte_and_rest t i lt = rw (add-one, drop-cons t i 0)
