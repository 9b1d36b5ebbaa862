-- The first refusal that applies.
use Rattle.std.specs.Prelude.{◌≡◌, ◌⊎◌, Bool, true, false, cond, List, [], ◌∷◌, Option, Some, None, Result, Ok, Err}
use Rattle.heap_class.specs.declared.Refusal.{Refusal}
use Rattle.heap_class.specs.declared.Refusal.TheVariants.{NoMemory}

-- the refusal beside the first test that is true, or None if none is
unfoldable pub first_refusal : List (Bool × Refusal) → Option Refusal
first_refusal [] = None
first_refusal (t ∷ ts) = cond t.0 (Some t.1) (first_refusal ts)

-- no test is true
abbrev pub NoneHolds : List (Bool × Refusal) → Type 0
NoneHolds [] = Unit {0}
NoneHolds (t ∷ ts) = (t.0 ≡ false) × NoneHolds ts

-- the result of a call with this first refusal: the call is done only if nothing refuses it; it answers just the
-- refusal, or NoMemory if nothing else refuses it and it `grows`, so that an allocation may fail
abbrev pub IsAnswered : {A : Type 0} → Option Refusal → Bool → Result A Refusal → Type 0
IsAnswered refusal grows (Ok a) = refusal ≡ None
IsAnswered refusal grows (Err e) =
    (refusal ≡ Some e) ⊎ ((refusal ≡ None) × (grows ≡ true) × (e ≡ NoMemory))
