use Rattle.std.proofs.Common.{◌*◌, ◌≤◌, List, ℕ, true}
use Rattle.hprof_text.specs.Laws.{piece_size_limit}
use Rattle.session_text.specs.Writes.{IsTextAdded}
use Rattle.session_text.proofs.DumpLines.{Onward}
use Rattle.session_text.proofs.dump.write_dump.Given as goal

abbrev pub invariant-loop-number : goal.invariant-loop-number
invariant-loop-number g l =
    (l.total ≤ l.number * piece_size_limit)
    × (text : List ℕ) × IsTextAdded text l.initial.page (g.O.Outlet.seen l.initial.outlet) l.page (g.O.Outlet.seen l.outlet) true × Onward g.C.Commands.acts l.pin l.time l.initial.commands l.number l.commands l.total text
