use Rattle.question_text.proofs.Comments.{comments_no_command}
use Rattle.question_text.proofs.comments_are_new.Goals as goal

pub returns : goal.returns
returns c = comments_no_command
