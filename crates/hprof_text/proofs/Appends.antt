-- One append after another.
use Rattle.std.proofs.Common.{◌≡◌, ℕ, ◌+◌, ◌≤◌, List, ◌++◌, length, ap, ◌∙◌, append_assoc, length-append, arith}

pub two_appends_in_turn : (o p q a b : List ℕ) → p ≡ o ++ a → q ≡ p ++ b → q ≡ o ++ (a ++ b)
two_appends_in_turn o p q a b h k = k ∙ ap (λ l. l ++ b) h ∙ append_assoc o a b

pub three_appends_in_turn : (o p q r a b c : List ℕ) → p ≡ o ++ a → q ≡ p ++ b → r ≡ q ++ c → r ≡ o ++ (a ++ b ++ c)
three_appends_in_turn o p q r a b c h k l = two_appends_in_turn o q r (a ++ b) c (two_appends_in_turn o p q a b h k) l

pub four_appends_in_turn : (o p q r s a b c d : List ℕ) → p ≡ o ++ a → q ≡ p ++ b → r ≡ q ++ c → s ≡ r ++ d → s ≡ o ++ (a ++ b ++ c ++ d)
four_appends_in_turn o p q r s a b c d h k l m = two_appends_in_turn o r s (a ++ b ++ c) d (three_appends_in_turn o p q r a b c h k l) m

pub five_appends_in_turn : (o p q r s t a b c d e : List ℕ) → p ≡ o ++ a → q ≡ p ++ b → r ≡ q ++ c → s ≡ r ++ d → t ≡ s ++ e → t ≡ o ++ (a ++ b ++ c ++ d ++ e)
five_appends_in_turn o p q r s t a b c d e h k l m n = two_appends_in_turn o s t (a ++ b ++ c ++ d) e (four_appends_in_turn o p q r s a b c d h k l m) n

pub six_appends_in_turn : (o p q r s t u a b c d e f : List ℕ) → p ≡ o ++ a → q ≡ p ++ b → r ≡ q ++ c → s ≡ r ++ d → t ≡ s ++ e → u ≡ t ++ f → u ≡ o ++ (a ++ b ++ c ++ d ++ e ++ f)
six_appends_in_turn o p q r s t u a b c d e f h k l m n i = two_appends_in_turn o t u (a ++ b ++ c ++ d ++ e) f (five_appends_in_turn o p q r s t a b c d e h k l m n) i

-- there is room for what comes first, next and last
pub room_for_first_append : (o whole a b : List ℕ) (n : ℕ) → whole ≡ a ++ b → length o + length whole ≤ n → length o + length a ≤ n
room_for_first_append o whole a b n w room = omega (arith, ap length w, length-append a b)

pub room_for_append_after_another : (o p whole a b rest : List ℕ) (n : ℕ) → whole ≡ a ++ b ++ rest → p ≡ o ++ a → length o + length whole ≤ n → length p + length b ≤ n
room_for_append_after_another o p whole a b rest n w h room =
    omega (arith, ap length w, length-append (a ++ b) rest, length-append a b, ap length h, length-append o a)

pub room_for_last_append : (o p whole a b : List ℕ) (n : ℕ) → whole ≡ a ++ b → p ≡ o ++ a → length o + length whole ≤ n → length p + length b ≤ n
room_for_last_append o p whole a b n w h room = omega (arith, ap length w, length-append a b, ap length h, length-append o a)
