-- Items one after another, read up to the end of bytes.
use Rattle.std.specs.Prelude.{ℕ, zero, suc, List, [], ◌∷◌, length, Result, Option, Some, None}
use Rattle.std.specs.Result.{result_ok}
use Rattle.hprof_reader.specs.declared.fault.Fault.{Fault}

-- if there is a value, go on with it
infixl 10 ◌>>=◌
abbrev pub ◌>>=◌ : {A B : Type 0} → Option A → (A → Option B) → Option B
None >>= f = None
(Some x) >>= f = f x

-- the items that `read` finds up to the end of the bytes, if they are at most n
unfoldable pub items_at : {A : Type 0} → (List ℕ → Result (A × List ℕ) Fault) → ℕ → List ℕ → Option (List A)
items_at read n [] = Some []
items_at read zero (b ∷ bytes) = None
items_at read (suc n) (b ∷ bytes) = do
  x ← result_ok (read (b ∷ bytes))
  xs ← items_at read n x.1
  Some (x.0 ∷ xs)

-- the items that `read` finds up to the end of the bytes; each has at least one byte
abbrev pub items_in : {A : Type 0} → (List ℕ → Result (A × List ℕ) Fault) → List ℕ → Option (List A)
items_in read bytes = items_at read (length bytes) bytes

-- the values, if all are there
unfoldable pub all_there : {A : Type 0} → List (Option A) → Option (List A)
all_there [] = Some []
all_there (x ∷ xs) = do
  y ← x
  ys ← all_there xs
  Some (y ∷ ys)
