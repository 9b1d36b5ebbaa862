-- Names of classes and fields that a heap takes.
use Rattle.std.specs.Prelude.{◌≡◌, ℕ, ◌-◌, ◌<◌, ◌==◌, ◌&&◌, ◌⊎◌, Bool, true, false, not, cond, List, [], ◌∷◌, ◌++◌, codes, decimal, map, take}
use Rattle.std.specs.List.{list_any, AllByRecursion}
use Rattle.std.specs.Str.{bytes_eq}
use Rattle.heap_class.specs.declared.ClassLimits.{ClassLimits}
use Rattle.heap_class.specs.Classes.{is_name, is_name_byte}

-- whether a heap with these limits takes the name, and it doesn't begin with a full stop
abbrev pub is_clean : ClassLimits → List ℕ → Bool
is_clean limits [] = false
is_clean limits (x ∷ xs) = not (x == 46) && is_name limits (x ∷ xs)

-- a byte, if it may stand in a name, or else a low line
abbrev pub sign_for : Bool → ℕ → ℕ
sign_for any_sign b = cond (is_name_byte any_sign b) b 95

-- a name that is written instead of another: the number between two full stops, and what of the name there is room for, with a
-- low line instead of each byte that may not stand in a name
unfoldable pub other_name : ClassLimits → ℕ → List ℕ → List ℕ
other_name limits number name =
    codes "." ++ decimal number ++ codes "." ++ map (sign_for limits.any_sign) (take (limits.name_bytes - 22) name)

-- the name that a class or a field gets beside these: its own, if that is clean and none of these
unfoldable pub given_name : ClassLimits → List (List ℕ) → ℕ → List ℕ → List ℕ
given_name limits given number name =
    cond (is_clean limits name && not (list_any (bytes_eq name) given)) name (other_name limits number name)

-- ---- names that were given

-- a name instead of another, with a number below n
pub record IsOther (limits : ClassLimits) (n : ℕ) (y : List ℕ) : Type 0 where
  pub number : ℕ
  pub below : number < n
  pub name : List ℕ
  pub is : y ≡ other_name limits number name

-- a name that was given before number n: a clean one, or one instead of another
abbrev pub IsGiven : ClassLimits → ℕ → List ℕ → Type 0
IsGiven limits n y = (is_clean limits y ≡ true) ⊎ IsOther limits n y

-- so each of these is
abbrev pub AreGiven : ClassLimits → ℕ → List (List ℕ) → Type 0
AreGiven limits n given = AllByRecursion (IsGiven limits n) given
