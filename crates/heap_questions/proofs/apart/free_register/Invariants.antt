use Rattle.std.proofs.Common.{◌≡◌, ℕ, ◌<◌, true, map}
use Rattle.std.specs.Prelude.{slice_get, Some}
use Rattle.std.specs.List.{list_any}
use Rattle.heap_questions.specs.PathsApart.{route_of}
use Rattle.heap_questions.specs.Starts.{starts_at}
use Rattle.heap_questions.proofs.apart.free_register.Given as goal

abbrev pub invariant-loop-r : goal.invariant-loop-r
invariant-loop-r l = (q : ℕ) → q < l.r → slice_get l.registers q ≡ Some l.id → list_any (starts_at q) (map route_of l.paths) ≡ true
