use Rattle.std.proofs.Common.{◌≡◌, ◌<◌, ℕ, false, get_or, []}
use Rattle.std.specs.Str.{bytes_eq}
use Rattle.hprof_pair.proofs.joined_classes.number_of_line.Given as goal

abbrev pub invariant-loop-k : goal.invariant-loop-k
invariant-loop-k l = (j : ℕ) → j < l.k → bytes_eq l.line (get_or l.lines j []) ≡ false
