-- Rooms that a word is copied into.
use Rattle.std.proofs.Common.{◌≡◌, ◌∙◌, ℕ, zero, suc, ◌-◌, ◌≤◌, List, [], ◌∷◌, ◌++◌, length, take, drop, replicate, refl, sym, ap, subst, arith, length-append}
use Rattle.std.proofs.lemmas.List.{length-drop, length-replicate}
use Rattle.secret_word.specs.Words.{IsSecret, IsWordRoom}

take_of_front_list : (xs ys : List ℕ) → take (length xs) (xs ++ ys) ≡ xs
take_of_front_list [] ys = refl
take_of_front_list (x ∷ xs) ys = ap (λ l. x ∷ l) (take_of_front_list xs ys)

drop_front : (xs ys : List ℕ) → drop (length xs) (xs ++ ys) ≡ ys
drop_front [] ys = refl
drop_front (x ∷ xs) ys = drop_front xs ys

-- fewer copies
zeros_dropped_leave_fewer_zeros : (k n : ℕ) → k ≤ n → drop {A = ℕ} k (replicate n 0) ≡ replicate (n - k) 0
zeros_dropped_leave_fewer_zeros zero n le = ap (λ m. replicate {A = ℕ} m 0) (omega arith)
zeros_dropped_leave_fewer_zeros (suc k) zero le = absurd (omega (arith, le))
zeros_dropped_leave_fewer_zeros (suc k) (suc n) le = zeros_dropped_leave_fewer_zeros k n (omega (arith, le)) ∙ ap (λ m. replicate {A = ℕ} m 0) (omega arith)

pub copied_word_makes_word_room : (word copy : List ℕ) → IsSecret word → copy ≡ word → IsWordRoom (length word) (copy ++ drop (length word) (replicate 64 0))
copied_word_makes_word_room word copy secret same =
    let zeros : List ℕ = replicate 64 0 in
    subst (λ l. IsWordRoom (length word) (l ++ drop (length word) (replicate 64 0))) (sym same) (record {
      word = subst IsSecret (sym (take_of_front_list word (drop (length word) (replicate 64 0)))) secret;
      most = secret.1;
      whole = omega (arith, length-append word (drop (length word) (replicate 64 0)), length-drop (length word) zeros, length-replicate {A = ℕ} 64 0, secret.1);
      zeros = drop_front word (drop (length word) (replicate 64 0)) ∙ zeros_dropped_leave_fewer_zeros (length word) 64 secret.1;
    })
