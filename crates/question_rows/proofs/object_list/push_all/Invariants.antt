use Rattle.std.proofs.Common.{◌≡◌, ◌++◌, drop}
use Rattle.std.specs.Prelude.{flat_map}
use Rattle.question_rows.specs.ObjectLists.{listed_text}
use Rattle.question_rows.proofs.object_list.push_all.Given as goal

abbrev pub invariant-loop-i : goal.invariant-loop-i
invariant-loop-i l =
    l.text.items ++ flat_map (listed_text l.classes) (drop l.i l.all) ≡ l.fn.text.items ++ flat_map (listed_text l.classes) l.all
