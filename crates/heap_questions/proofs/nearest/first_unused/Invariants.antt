use Rattle.std.proofs.Common.{◌≡◌, ℕ, ◌<◌, ◌/◌, ◌%◌, true, get_or}
use Rattle.std.specs.List.{list_any}
use Rattle.heap_questions.specs.PathsApart.{route_of}
use Rattle.heap_questions.specs.Search.{slot_span}
use Rattle.heap_questions.specs.Starts.{starts_by}
use Rattle.heap_questions.specs.declared.nearest.Start.{Start}
use Rattle.heap_questions.proofs.nearest.first_unused.Given as goal

abbrev pub invariant-loop-place : goal.invariant-loop-place
invariant-loop-place l = (k : ℕ) → k < l.place → (d : Start) → let b : Start = get_or l.starts k d in list_any (λ p. starts_by (b.number / slot_span) (b.number % slot_span) (route_of p)) l.paths ≡ true
