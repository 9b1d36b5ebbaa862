use Rattle.heap_trail.proofs.GivenText.{gives_text}
use Rattle.heap_trail.proofs.dumps_are_text.Goals as goal

pub returns : goal.returns
returns c = gives_text
