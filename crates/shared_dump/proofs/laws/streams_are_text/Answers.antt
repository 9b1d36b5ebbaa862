use Rattle.shared_dump.proofs.LiveTexts.{streams_text}
use Rattle.shared_dump.proofs.laws.streams_are_text.Goals as goal

pub returns : goal.returns
returns c = streams_text
