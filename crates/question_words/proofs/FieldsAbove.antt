-- The fields of a class and of those above it.
use Rattle.std.proofs.Common.{◌≡◌, ◌+◌, ◌<◌, ℕ, zero, suc, List, [], ◌++◌, Option, Some, None, refl, ap, arith}
use Rattle.std.specs.Prelude.{IfSome}
use Rattle.heap_class.specs.Classes.{Class, fields_of, sup_of}
use Rattle.question_words.specs.Names.{fields_up}

pub fields_none : (cs : List Class) (n : ℕ) → fields_up cs n None ≡ []
fields_none cs zero = refl
fields_none cs (suc n) = refl

pub fields_more : (cs : List Class) (n m k : ℕ) → n ≡ m + 1 → fields_up cs n (Some k) ≡ fields_of cs k ++ fields_up cs m (sup_of cs k)
fields_more cs n m k e =
    let s : n ≡ suc m = omega (arith, e) in
    ap (λ x. fields_up cs x (Some k)) s

pub bound_may_grow : (o : Option ℕ) (a n : ℕ) → IfSome o (λ s. s < a) → a < n → IfSome o (λ s. s < n)
bound_may_grow None a n h l = tt
bound_may_grow (Some s) a n h l = omega (arith, h, l)
