use Rattle.question_text.proofs.NotedLines.{help_changes_nothing, others_change_nothing, question_changes_nothing}
use Rattle.question_text.proofs.questions_change_nothing.Goals as goal

pub returns : goal.returns
returns c = record {
  questions = question_changes_nothing;
  help = help_changes_nothing;
  others = others_change_nothing;
}
