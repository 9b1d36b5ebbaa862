use Rattle.question_text.proofs.KeptRedos.{act_keeps, answer_keeps_redo, begins_with_no_redo, session_keeps_redo}
use Rattle.question_text.proofs.undone_steps_lead_on.Goals as goal

pub returns : goal.returns
returns c = record {
  begins = begins_with_no_redo;
  actions = λ a r c d. act_keeps c a r d;
  lines = answer_keeps_redo;
  sessions = session_keeps_redo;
}
