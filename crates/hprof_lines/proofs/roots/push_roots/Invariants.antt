use Rattle.std.proofs.Common.{◌≡◌, ◌++◌, drop, length}
use Rattle.hprof_session.specs.Places.{lines_of}
use Rattle.hprof_lines.specs.Roots.{kind_events, roots_from}
use Rattle.hprof_lines.proofs.roots.push_roots.Given as goal

abbrev pub invariant-loop-i : goal.invariant-loop-i
invariant-loop-i l =
    l.lines ++ lines_of (roots_from l.class l.first (length l.numbers) l.i (drop l.i l.numbers))
    ≡ l.fn.lines ++ lines_of (kind_events l.class l.first l.numbers)
