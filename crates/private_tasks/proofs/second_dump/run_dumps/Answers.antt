use Rattle.session_text.specs.Answers.{Begins}
use Rattle.private_tasks.proofs.RunPairs.{converted_pair_is_run, unrun_pair_is_hindered}
use Rattle.private_tasks.proofs.second_dump.run_dumps.Goals as goal

pub returns-clause-run : goal.returns-clause-run
returns-clause-run g c =
    converted_pair_is_run _ _ (Begins g.C.Commands.acts g.C.Commands.unknown g.B.LoadStart.time) _ _ _ _ _ c.convert_pair-converted.result c.into_commands-left.result c.commands_left.result
    (rw c.new-outlet.ensures at c.convert_pair-converted.ensures) c.into_commands-left.ensures.run c.commands_left.ensures.run

pub returns-clause-hindrance : goal.returns-clause-hindrance
returns-clause-hindrance g c =
    unrun_pair_is_hindered _ _ _ _ _ _ _ c.convert_pair-converted.result c.into_commands-left.result c.commands_left.result
    (rw c.new-outlet.ensures at c.convert_pair-converted.ensures) c.into_commands-left.ensures.failures c.into_commands-left.ensures.ended c.commands_left.ensures.fault
