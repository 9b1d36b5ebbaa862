use Rattle.std.proofs.Common.{◌≡◌, ◌++◌, take}
use Rattle.std.specs.Prelude.{flat_map}
use Rattle.question_rows.specs.SlotChanges.{change_line}
use Rattle.question_rows.proofs.slot_changes.push_changes.Given as goal

abbrev pub invariant-loop-change : goal.invariant-loop-change
invariant-loop-change l = l.text.items ≡ l.fn.text.items ++ flat_map (change_line l.refers) (take l.change-index l.changes)
