-- The parts of a word.
use Rattle.std.specs.Prelude.{ℕ, ◌==◌, List}
use Rattle.std.specs.List.{slice_split}

-- what stands between the dots of a word
abbrev pub parts_of_word : List ℕ → List (List ℕ)
parts_of_word w = slice_split (λ b. b == 46) w
