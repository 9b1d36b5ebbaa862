use Rattle.std.proofs.Common.{◌≡◌, ◌++◌, drop}
use Rattle.std.specs.Prelude.{flat_map}
use Rattle.question_text.specs.DominatorRows.{above_text}
use Rattle.question_text.proofs.dominator_rows.push_up.Given as goal

abbrev pub invariant-loop-i : goal.invariant-loop-i
invariant-loop-i g l =
    l.text.items ++ flat_map (above_text l.index) (drop l.i l.up) ≡ l.fn.text.items ++ flat_map (above_text l.index) l.up
