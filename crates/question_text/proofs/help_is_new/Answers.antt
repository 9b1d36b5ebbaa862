use Rattle.question_text.proofs.NewWords.{helps_no_command}
use Rattle.question_text.proofs.help_is_new.Goals as goal

pub returns : goal.returns
returns c = helps_no_command
