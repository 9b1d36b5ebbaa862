use Rattle.std.proofs.Common.{◌≡◌, ◌++◌, take}
use Rattle.std.specs.Prelude.{flat_map}
use Rattle.question_rows.proofs.lines.push_lines.Given as goal

abbrev pub invariant-loop-one : goal.invariant-loop-one
invariant-loop-one g l = l.text.items ≡ l.fn.text.items ++ flat_map g.T.Lined.line (take l.one-index l.all)
