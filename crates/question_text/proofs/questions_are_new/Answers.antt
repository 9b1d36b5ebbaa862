use Rattle.question_text.proofs.NewChains.{chains_no_command}
use Rattle.question_text.proofs.NewWords.{asks_no_command, names_no_command}
use Rattle.question_text.proofs.questions_are_new.Goals as goal

pub returns : goal.returns
returns c = record { numbers = asks_no_command; names = names_no_command; chains = chains_no_command }
