use Rattle.seat_session.proofs.DumpTexts.{pin_dump, new_dump_tells_its_text}
use Rattle.seat_session.proofs.laws.served_dumps_are_text.Goals as goal

pub returns-clause-pin : goal.returns-clause-pin
returns-clause-pin c start = pin_dump

pub returns-clause-now : goal.returns-clause-now
returns-clause-now c start = new_dump_tells_its_text
