use Rattle.heap_region.proofs.AllTurned.{waits_read_anew}
use Rattle.heap_region.proofs.waits.Waits.turn.Goals as goal

pub returns : goal.returns
returns c = rw (← c.self.view_is) (waits_read_anew c.self.inside.odd c.self.inside.classes)
