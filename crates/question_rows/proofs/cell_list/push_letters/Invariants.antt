use Rattle.std.proofs.Common.{◌≡◌, ◌++◌}
use Rattle.question_rows.specs.CellLists.{cell_letters}
use Rattle.question_rows.proofs.cell_list.push_letters.Given as goal

abbrev pub invariant-loop-cell : goal.invariant-loop-cell
invariant-loop-cell l = l.text.items ≡ l.fn.text.items ++ cell_letters l.cells l.region l.cell
