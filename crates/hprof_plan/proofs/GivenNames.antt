-- Names that are given to classes or fields, each once.
use Rattle.std.proofs.Common.{◌≡◌, ℕ, ◌+◌, ◌-◌, ◌<◌, ◌≤◌, ◌^◌, Bool, true, false, cond, not, ◌&&◌, List, [], ◌∷◌, ◌++◌, length, map, take, refl, sym, ap, subst, ◌∙◌, append_assoc, arith, inl, inr, true≢false}
use Rattle.std.specs.Prelude.{decimal, ◌==◌, nat_le}
use Rattle.std.specs.List.{list_any, list_all}
use Rattle.std.specs.Str.{bytes_eq}
use Rattle.std.specs.Str.Parse.{AllDigits}
use Rattle.std.proofs.lemmas.Bool.{ne_eqb, cond-false, and_parts, and_from, not-true, or_from, or_left, or_right, false_from_ne_true, le-leb}
use Rattle.std.proofs.lemmas.Fmt.{decimal_is_IsNumeral, decimal_injective, length-decimal-le}
use Rattle.std.proofs.lemmas.List.{length-append, length-map, length-take}
use Rattle.std.proofs.lemmas.Str.Parse.{tells_digits}
use Rattle.heap_class.specs.declared.ClassLimits.{ClassLimits}
use Rattle.heap_class.specs.Classes.{is_name, is_name_byte}
use Rattle.heap_class.proofs.FirstUses.{bytes_same}
use Rattle.hprof_plan.specs.Names.{is_clean, sign_for, other_name, given_name, IsGiven, AreGiven}

-- ---- other names

-- the bytes before the first full stop
abbrev before_stop : List ℕ → List ℕ
before_stop [] = []
before_stop (x ∷ xs) = cond (x == 46) [] (x ∷ before_stop xs)

digits_before_stop : (ds more : List ℕ) → AllDigits 10 ds → before_stop (ds ++ 46 ∷ more) ≡ ds
digits_before_stop [] more digits = refl
digits_before_stop (d ∷ ds) more digits =
    let parts = tells_digits.parts d ds digits in
    let differs : (d == 46) ≡ false = ne_eqb d 46 (λ e. omega (arith, parts.0, e)) in
    cond-false (d == 46) [] (d ∷ before_stop (ds ++ 46 ∷ more)) differs ∙ ap (λ (t : List ℕ). d ∷ t) (digits_before_stop ds more parts.1)

abbrev kept_part : ClassLimits → List ℕ → List ℕ
kept_part limits x = map (sign_for limits.any_sign) (take (limits.name_bytes - 22) x)

other_name_spelled : (limits : ClassLimits) (n : ℕ) (x : List ℕ) → other_name limits n x ≡ 46 ∷ (decimal n ++ 46 ∷ kept_part limits x)
unfolding other_name
other_name_spelled limits n x = ap (λ (t : List ℕ). 46 ∷ t) (append_assoc (decimal n) (46 ∷ []) (kept_part limits x))

abbrev bytes_behind_digits : List ℕ → List ℕ
bytes_behind_digits [] = []
bytes_behind_digits (x ∷ xs) = xs

number_in : (limits : ClassLimits) (n : ℕ) (x : List ℕ) → n < 2 ^ 64 → before_stop (bytes_behind_digits (other_name limits n x)) ≡ decimal n
number_in limits n x long =
    ap (λ (t : List ℕ). before_stop (bytes_behind_digits t)) (other_name_spelled limits n x)
    ∙ digits_before_stop (decimal n) (kept_part limits x) (decimal_is_IsNumeral n long).0.1

same_number : (limits : ClassLimits) (n m : ℕ) (x y : List ℕ) → n < 2 ^ 64 → m < 2 ^ 64 → other_name limits n x ≡ other_name limits m y → n ≡ m
same_number limits n m x y long long_too e =
    decimal_injective n m long long_too
    (sym (number_in limits n x long) ∙ ap (λ (t : List ℕ). before_stop (bytes_behind_digits t)) e ∙ number_in limits m y long_too)

other_unclean : (limits : ClassLimits) (n : ℕ) (x : List ℕ) → is_clean limits (other_name limits n x) ≡ false
other_unclean limits n x = ap (is_clean limits) (other_name_spelled limits n x)

-- ---- names that were given

other_name_differs : (limits : ClassLimits) (n : ℕ) (x y : List ℕ) → n < 2 ^ 64 → IsGiven limits n y → bytes_eq (other_name limits n x) y ≡ false
other_name_differs limits n x y long (inl clean) =
    false_from_ne_true _ (λ e. true≢false (sym clean ∙ sym (ap (is_clean limits) (bytes_same (other_name limits n x) y e)) ∙ other_unclean limits n x))
other_name_differs limits n x y long (inr other) =
    false_from_ne_true _ (λ e.
    let same : n ≡ other.number = same_number limits n other.number x other.name long (omega (arith, long, other.below)) (bytes_same (other_name limits n x) y e ∙ other.is) in
    omega (arith, same, other.below))

none_is : (limits : ClassLimits) (n : ℕ) (x : List ℕ) (given : List (List ℕ)) → n < 2 ^ 64 → AreGiven limits n given → list_any (bytes_eq (other_name limits n x)) given ≡ false
none_is limits n x [] long all = refl
none_is limits n x (y ∷ given) long all = or_from _ _ (other_name_differs limits n x y long all.0) (none_is limits n x given long all.1)

-- a name that is given is none of those before
fresh_as : (limits : ClassLimits) (n : ℕ) (x : List ℕ) (given : List (List ℕ)) (b : Bool) → n < 2 ^ 64 → AreGiven limits n given → (is_clean limits x && not (list_any (bytes_eq x) given)) ≡ b
    → list_any (bytes_eq (cond b x (other_name limits n x))) given ≡ false
fresh_as limits n x given true long all e = not-true _ (and_parts (is_clean limits x) _ e).1
fresh_as limits n x given false long all e = none_is limits n x given long all

pub given_name_is_new : (limits : ClassLimits) (n : ℕ) (x : List ℕ) (given : List (List ℕ)) → n < 2 ^ 64 → AreGiven limits n given → list_any (bytes_eq (given_name limits given n x)) given ≡ false
unfolding given_name
given_name_is_new limits n x given long all = fresh_as limits n x given _ long all refl

-- and stays given
stays_as : (limits : ClassLimits) (n : ℕ) (x : List ℕ) (b c : Bool) → (is_clean limits x && c) ≡ b → IsGiven limits (n + 1) (cond b x (other_name limits n x))
stays_as limits n x true c e = inl (and_parts (is_clean limits x) c e).0
stays_as limits n x false c e = inr (record { number = n; below = omega arith; name = x; is = refl })

given_below_next_number : (limits : ClassLimits) (n : ℕ) (y : List ℕ) → IsGiven limits n y → IsGiven limits (n + 1) y
given_below_next_number limits n y (inl clean) = inl clean
given_below_next_number limits n y (inr other) = inr (record { number = other.number; below = omega (arith, other.below); name = other.name; is = other.is })

and_one : (limits : ClassLimits) (n : ℕ) (given : List (List ℕ)) (y : List ℕ) → AreGiven limits n given → IsGiven limits (n + 1) y → AreGiven limits (n + 1) (given ++ y ∷ [])
and_one limits n [] y all last = (last, tt)
and_one limits n (z ∷ given) y all last = (given_below_next_number limits n z all.0, and_one limits n given y all.1 last)

pub one_given : (limits : ClassLimits) (n : ℕ) (x : List ℕ) (given : List (List ℕ)) → AreGiven limits n given → AreGiven limits (n + 1) (given ++ given_name limits given n x ∷ [])
unfolding given_name
one_given limits n x given all = and_one limits n given _ all (stays_as limits n x _ (not (list_any (bytes_eq x) given)) refl)

-- ---- names that a heap takes

stop_allowed : (any_sign : Bool) → is_name_byte any_sign 46 ≡ true
unfolding is_name_byte
stop_allowed true = refl
stop_allowed false = refl

line_allowed : (any_sign : Bool) → is_name_byte any_sign 95 ≡ true
unfolding is_name_byte
line_allowed true = refl
line_allowed false = refl

digit_allowed : (any_sign : Bool) (d : ℕ) → 48 ≤ d → d ≤ 57 → is_name_byte any_sign d ≡ true
unfolding is_name_byte
digit_allowed any_sign d low high = or_right _ _ (or_left _ _ (or_left _ _ (or_left _ _ (and_from _ _ (le-leb 48 d low) (le-leb d 57 high)))))

digits_allowed : (any_sign : Bool) (ds : List ℕ) → AllDigits 10 ds → list_all (is_name_byte any_sign) ds ≡ true
digits_allowed any_sign [] digits = refl
digits_allowed any_sign (d ∷ ds) digits =
    let parts = tells_digits.parts d ds digits in
    and_from _ _ (digit_allowed any_sign d (omega (arith, parts.0)) (omega (arith, parts.0))) (digits_allowed any_sign ds parts.1)

sign_allowed_as : (any_sign : Bool) (b : ℕ) (v : Bool) → is_name_byte any_sign b ≡ v → is_name_byte any_sign (cond v b 95) ≡ true
sign_allowed_as any_sign b true e = e
sign_allowed_as any_sign b false e = line_allowed any_sign

signs_allowed : (any_sign : Bool) (bytes : List ℕ) → list_all (is_name_byte any_sign) (map (sign_for any_sign) bytes) ≡ true
signs_allowed any_sign [] = refl
signs_allowed any_sign (b ∷ bytes) = and_from _ _ (sign_allowed_as any_sign b _ refl) (signs_allowed any_sign bytes)

all_append : (p : ℕ → Bool) (a b : List ℕ) → list_all p a ≡ true → list_all p b ≡ true → list_all p (a ++ b) ≡ true
all_append p [] b first second = second
all_append p (x ∷ a) b first second = let both = and_parts (p x) (list_all p a) first in and_from _ _ both.0 (all_append p a b both.1 second)

other_signs : (limits : ClassLimits) (n : ℕ) (x : List ℕ) → n < 2 ^ 64 → list_all (is_name_byte limits.any_sign) (46 ∷ (decimal n ++ 46 ∷ kept_part limits x)) ≡ true
other_signs limits n x long =
    and_from _ _ (stop_allowed limits.any_sign)
    (all_append (is_name_byte limits.any_sign) (decimal n) (46 ∷ kept_part limits x) (digits_allowed limits.any_sign (decimal n) (decimal_is_IsNumeral n long).0.1)
    (and_from _ _ (stop_allowed limits.any_sign) (signs_allowed limits.any_sign (take (limits.name_bytes - 22) x))))

other_size : (limits : ClassLimits) (n : ℕ) (x : List ℕ) → n < 2 ^ 64 → 22 ≤ limits.name_bytes → length (46 ∷ (decimal n ++ 46 ∷ kept_part limits x)) ≤ limits.name_bytes
other_size limits n x long room =
    omega (arith, length-append (decimal n) (46 ∷ kept_part limits x), length-decimal-le 20 n (omega arith) (omega (arith, long)) long, length-map (take (limits.name_bytes - 22) x) (sign_for limits.any_sign), length-take (limits.name_bytes - 22) x)

other_taken : (limits : ClassLimits) (n : ℕ) (x : List ℕ) → n < 2 ^ 64 → 22 ≤ limits.name_bytes → is_name limits (other_name limits n x) ≡ true
unfolding is_name
other_taken limits n x long room =
    subst (λ (t : List ℕ). (nat_le 1 (length t) && nat_le (length t) limits.name_bytes && list_all (is_name_byte limits.any_sign) t) ≡ true) (sym (other_name_spelled limits n x))
    (and_from _ _ (and_from _ _ (le-leb 1 (length (46 ∷ (decimal n ++ 46 ∷ kept_part limits x))) (omega arith)) (le-leb (length (46 ∷ (decimal n ++ 46 ∷ kept_part limits x))) limits.name_bytes (other_size limits n x long room))) (other_signs limits n x long))

clean_taken : (limits : ClassLimits) (x : List ℕ) → is_clean limits x ≡ true → is_name limits x ≡ true
clean_taken limits [] e = absurd (true≢false (sym e))
clean_taken limits (b ∷ x) e = (and_parts (not (b == 46)) (is_name limits (b ∷ x)) e).1

taken_as : (limits : ClassLimits) (n : ℕ) (x : List ℕ) (b c : Bool) → n < 2 ^ 64 → 22 ≤ limits.name_bytes → (is_clean limits x && c) ≡ b → is_name limits (cond b x (other_name limits n x)) ≡ true
taken_as limits n x true c long room e = clean_taken limits x (and_parts (is_clean limits x) c e).0
taken_as limits n x false c long room e = other_taken limits n x long room

pub given_taken : (limits : ClassLimits) (n : ℕ) (x : List ℕ) (given : List (List ℕ)) → n < 2 ^ 64 → 22 ≤ limits.name_bytes → is_name limits (given_name limits given n x) ≡ true
unfolding given_name
given_taken limits n x given long room = taken_as limits n x _ (not (list_any (bytes_eq x) given)) long room refl
