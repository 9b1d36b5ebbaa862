use Rattle.std.proofs.Common.{◌≡◌, length, map, take}
use Rattle.heap_history.specs.Definitions.{shape_of}
use Rattle.heap_history.proofs.definition.placed_shapes.Given as goal

abbrev pub invariant-loop-i : goal.invariant-loop-i
invariant-loop-i l = (length l.shapes ≡ 8) × (take l.i l.shapes ≡ map shape_of (take l.i l.fields))
