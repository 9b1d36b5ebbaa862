-- Lists in which no number stands twice.
use Rattle.std.proofs.Common.{◌≡◌, ◌≢◌, ℕ, Bool, true, false, List, [], ◌∷◌, refl, sym, ap, ◌∙◌, Contains, arith}
use mathlib.Core.Logic.{inl, inr}
use Rattle.std.specs.Prelude.{nat_eq}
use Rattle.std.specs.List.{IsDistinct, AllByRecursion}
use Rattle.std.proofs.lemmas.Bool.{eqb-true}
use Rattle.heap_region.proofs.References.{list_has_its_head, list_has_items_of_tail, member_is_head_or_later, empty_list_has_no_member}

pub number_equals_none_of_list : (x : ℕ) (ys : List ℕ) → ((y : ℕ) → Contains ys y → x ≢ y) → AllByRecursion (λ y. nat_eq x y ≡ false) ys
number_equals_none_of_list x [] h = tt
number_equals_none_of_list x (y ∷ ys) h = (differ (nat_eq x y) refl, number_equals_none_of_list x ys (λ z c. h z (list_has_items_of_tail y ys z c)))
  where
    differ : (b : Bool) → nat_eq x y ≡ b → b ≡ false
    differ true e = absurd (h y (list_has_its_head y ys) (eqb-true x y e))
    differ false e = refl

-- an item that none of the list is, before a list without repetition
pub distinct_cons : (x : ℕ) (ys : List ℕ) → ((y : ℕ) → Contains ys y → x ≢ y) → IsDistinct nat_eq ys → IsDistinct nat_eq (x ∷ ys)
unfolding IsDistinct
distinct_cons x ys h d = (number_equals_none_of_list x ys h, d)

pub rest_of_distinct_is_distinct : (x : ℕ) (ys : List ℕ) → IsDistinct nat_eq (x ∷ ys) → IsDistinct nat_eq ys
unfolding IsDistinct
rest_of_distinct_is_distinct x ys d = d.1

nat_eq_self : (y : ℕ) → nat_eq y y ≡ true
nat_eq_self y = grind arith

pub number_apart_from_each_item : (x : ℕ) (ys : List ℕ) → AllByRecursion (λ y. nat_eq x y ≡ false) ys → (y : ℕ) → Contains ys y → x ≢ y
number_apart_from_each_item x [] a y c = absurd (empty_list_has_no_member y c)
number_apart_from_each_item x (z ∷ zs) a y c = elim (member_is_head_or_later z zs y c) [
  | inl e ↦ (λ f. (let s : nat_eq x z ≡ false = a.0 in let q : nat_eq z z ≡ false = ap (λ k. nat_eq k z) (sym (f ∙ e)) ∙ s in let r = nat_eq_self z in let t : true ≡ false = sym r ∙ q in cc))
  | inr d ↦ number_apart_from_each_item x zs a.1 y d
]

pub first_of_distinct_differs : (x : ℕ) (ys : List ℕ) → IsDistinct nat_eq (x ∷ ys) → (y : ℕ) → Contains ys y → x ≢ y
unfolding IsDistinct
first_of_distinct_differs x ys d = number_apart_from_each_item x ys d.0
