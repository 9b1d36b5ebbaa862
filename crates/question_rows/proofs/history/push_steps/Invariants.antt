use Rattle.std.proofs.Common.{◌≡◌, ◌++◌, take}
use Rattle.std.specs.Prelude.{flat_map}
use Rattle.question_rows.specs.Histories.{past_step_line}
use Rattle.question_rows.proofs.history.push_steps.Given as goal

abbrev pub invariant-loop-step : goal.invariant-loop-step
invariant-loop-step l = l.text.items ≡ l.fn.text.items ++ flat_map (past_step_line l.classes) (take l.step-index l.steps)
