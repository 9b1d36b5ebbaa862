-- For proofs: numbers of turns, modulo 4.
use Rattle.std.specs.Prelude.{Bool, true, false}
use Rattle.heap_region.specs.declared.quarter.Quarter.{Quarter}
use Rattle.heap_region.specs.declared.quarter.Quarter.TheVariants.{Zero, One, Two, Three}

-- the number and one
abbrev pub next_quarter : Quarter → Quarter
next_quarter Zero = One
next_quarter One = Two
next_quarter Two = Three
next_quarter Three = Zero

-- the number less one
abbrev pub prior_quarter : Quarter → Quarter
prior_quarter Zero = Three
prior_quarter One = Zero
prior_quarter Two = One
prior_quarter Three = Two

-- the turns that lead from the second number to the first
abbrev pub since : Quarter → Quarter → Quarter
since q Zero = q
since q One = prior_quarter q
since q Two = next_quarter (next_quarter q)
since q Three = next_quarter q

-- whether these are no turns
abbrev pub is_zero : Quarter → Bool
is_zero Zero = true
is_zero One = false
is_zero Two = false
is_zero Three = false
