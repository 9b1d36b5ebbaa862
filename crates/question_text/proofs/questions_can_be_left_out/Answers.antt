use Rattle.question_text.proofs.QuestionsLeftOut.{left_out}
use Rattle.question_text.proofs.questions_can_be_left_out.Goals as goal

pub returns : goal.returns
returns c = left_out
