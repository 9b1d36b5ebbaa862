use Rattle.std.proofs.Common.{◌≡◌, ◌++◌, take}
use Rattle.std.specs.Prelude.{flat_map}
use Rattle.question_rows.specs.Lives.{life_line}
use Rattle.question_rows.proofs.life.push_lives.Given as goal

abbrev pub invariant-loop-life : goal.invariant-loop-life
invariant-loop-life l = l.text.items ≡ l.fn.text.items ++ flat_map (life_line l.classes) (take l.life-index l.lives)
