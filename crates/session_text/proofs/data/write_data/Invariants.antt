use Rattle.std.proofs.Common.{◌≡◌, List, ℕ, ◌++◌, true, length}
use Rattle.session_text.specs.Replies.{data_lines}
use Rattle.session_text.specs.Writes.{IsTextAdded}
use Rattle.session_text.proofs.data.write_data.Given as goal

abbrev pub invariant-loop-rest : goal.invariant-loop-rest
invariant-loop-rest g l =
    (text : List ℕ) × IsTextAdded text l.initial.page (g.O.Outlet.seen l.initial.outlet) l.page (g.O.Outlet.seen l.outlet) true × (data_lines l.bytes ≡ text ++ data_lines l.rest)

abbrev pub decreases-loop-rest : goal.decreases-loop-rest
decreases-loop-rest g l = length l.rest
