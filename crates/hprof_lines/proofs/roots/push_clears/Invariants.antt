use Rattle.std.proofs.Common.{◌≡◌, ◌++◌, take}
use Rattle.std.specs.Prelude.{flat_map}
use Rattle.hprof_session.specs.Places.{lines_of}
use Rattle.hprof_lines.specs.Roots.{clear_event}
use Rattle.hprof_lines.proofs.roots.push_clears.Given as goal

abbrev pub invariant-loop-r : goal.invariant-loop-r
invariant-loop-r l = l.lines ≡ l.fn.lines ++ lines_of (flat_map clear_event (take l.r-index l.registers))
