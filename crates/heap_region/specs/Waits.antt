-- For proofs: for each region whether it waits to be swept, told by a class that a turn of the heap reads anew.
use Rattle.std.specs.Prelude.{ℕ, zero, suc, Bool, true, false}

-- the class as it is read after an odd number of turns: regions that waited don't, and those that didn't wait
abbrev pub wait_turned : Bool → ℕ → ℕ
wait_turned false k = k
wait_turned true zero = 0
wait_turned true (suc zero) = 2
wait_turned true (suc (suc zero)) = 1
wait_turned true (suc (suc (suc k))) = suc (suc (suc k))
