use Rattle.std.proofs.Common.{◌≡◌, take}
use Rattle.std.specs.Prelude.{flat_map}
use Rattle.heap_questions.specs.Differences.{differences_of}
use Rattle.heap_questions.proofs.differences.object_differences.Given as goal

abbrev pub invariant-loop-place : goal.invariant-loop-place
invariant-loop-place g l = l.rows.items ≡ flat_map (differences_of (g.V.View.image l.initial.older) (g.V.View.image l.initial.newer)) (take l.place l.ids.items)
