use Rattle.question_text.proofs.HelpForms.{at_line, collect_line, each_question, each_session_line, forward_line, name_line}
use Rattle.question_text.proofs.help_is_whole.Goals as goal

pub returns : goal.returns
returns c = record {
  sessions = each_session_line;
  questions = each_question;
  collect = collect_line;
  forward = forward_line;
  at = at_line;
  name = name_line;
}
