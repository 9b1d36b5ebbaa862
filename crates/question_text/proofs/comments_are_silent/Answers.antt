use Rattle.question_text.proofs.Comments.{comment_silent}
use Rattle.question_text.proofs.comments_are_silent.Goals as goal

pub returns : goal.returns
returns c = comment_silent
