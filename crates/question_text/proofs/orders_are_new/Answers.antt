use Rattle.question_text.proofs.NewEvents.{orders_no_command}
use Rattle.question_text.proofs.orders_are_new.Goals as goal

pub returns : goal.returns
returns c = orders_no_command
