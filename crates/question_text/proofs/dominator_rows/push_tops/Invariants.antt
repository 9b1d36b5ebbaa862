use Rattle.std.proofs.Common.{◌≡◌, ◌++◌, drop}
use Rattle.std.specs.Prelude.{flat_map}
use Rattle.question_text.specs.DominatorRows.{top_text}
use Rattle.question_text.proofs.dominator_rows.push_tops.Given as goal

abbrev pub invariant-loop-i : goal.invariant-loop-i
invariant-loop-i l =
    l.text.items ++ flat_map (top_text l.classes) (drop l.i l.tops) ≡ l.fn.text.items ++ flat_map (top_text l.classes) l.tops
