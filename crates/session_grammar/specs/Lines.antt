-- The ends of lines.
use Rattle.std.specs.Prelude.{◌≡◌, ℕ, ◌+◌, ◌<◌, false, ◌==◌, List, ◌∷◌, ◌++◌, take, drop, length, All}

-- no byte is an LF
abbrev pub NoLf : List ℕ → Type 0
NoLf l = All (λ b. (b == 10) ≡ false) l

-- the first LF stands at n
abbrev pub IsLineAt : ℕ → List ℕ → Type 0
IsLineAt n xs = (n < length xs) × NoLf (take n xs) × (xs ≡ take n xs ++ 10 ∷ drop (n + 1) xs)
