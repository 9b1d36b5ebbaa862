-- The ends of lines.
use Rattle.std.specs.Prelude.{◌≡◌, ◌⊎◌, ℕ, ◌+◌, ◌<◌, false, ◌==◌, List, [], ◌∷◌, ◌++◌, take, drop, length, All}

-- no byte is an LF
abbrev pub NoLf : List ℕ → Type 0
NoLf l = All (λ b. (b == 10) ≡ false) l

-- the first LF stands at n
abbrev pub IsFirstEnd : ℕ → List ℕ → Type 0
IsFirstEnd n l = (n < length l) × NoLf (take n l) × (l ≡ take n l ++ 10 ∷ drop (n + 1) l)

-- this byte is the last
abbrev pub EndsIn : ℕ → List ℕ → Type 0
EndsIn end l = (rest : List ℕ) × (l ≡ rest ++ end ∷ [])

-- the rest is the text without this byte at its end
abbrev pub IsWithout : ℕ → List ℕ → List ℕ → Type 0
IsWithout end l rest =
    (l ≡ rest ++ end ∷ []) ⊎ ((rest ≡ l) × (EndsIn end l → ⊥))
