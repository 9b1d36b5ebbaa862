use Rattle.question_text.proofs.QuestionsLeftOut.{all_driven}
use Rattle.question_text.proofs.asking_session_is_list.Goals as goal

pub returns : goal.returns
returns c = all_driven
