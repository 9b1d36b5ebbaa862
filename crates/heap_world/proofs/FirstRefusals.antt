-- Which refusal a call answers, by the first test that holds.
use Rattle.std.proofs.Common.{◌≡◌, Bool, true, false, List, [], ◌∷◌, Option, Some, None, refl, ap, ◌∙◌}
use Rattle.std.specs.Prelude.{cond}
use Rattle.heap_class.specs.declared.Refusal.{Refusal}
use Rattle.heap_class.specs.Refusals.{first_refusal}

-- a test that holds, and one that doesn't
pub refusal_of_test_that_holds : (b : Bool) (e : Refusal) (ts : List (Bool × Refusal)) → b ≡ true → first_refusal ((b, e) ∷ ts) ≡ Some e
unfolding first_refusal
refusal_of_test_that_holds b e ts h = ap (λ t. cond t (Some e) (first_refusal ts)) h

pub refusal_of_later_tests : (b : Bool) (e : Refusal) (ts : List (Bool × Refusal)) (x : Option Refusal) → b ≡ false → first_refusal ts ≡ x → first_refusal ((b, e) ∷ ts) ≡ x
unfolding first_refusal
refusal_of_later_tests b e ts x h r = ap (λ t. cond t (Some e) (first_refusal ts)) h ∙ r

pub no_refusal_without_tests : first_refusal [] ≡ None
unfolding first_refusal
no_refusal_without_tests = refl
