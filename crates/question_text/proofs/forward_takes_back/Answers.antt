use Rattle.question_text.proofs.KeptRedos.{line_takes_back, stops_for_memory}
use Rattle.question_text.proofs.forward_takes_back.Goals as goal

pub returns : goal.returns
returns c = record { back = line_takes_back; stops = stops_for_memory }
