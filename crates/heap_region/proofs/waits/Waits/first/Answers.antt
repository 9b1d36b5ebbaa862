use Rattle.heap_region.proofs.AllTurned.{first_read}
use Rattle.heap_region.proofs.waits.Waits.first.Goals as goal

pub returns : goal.returns
returns c = rw (← c.self.view_is) (first_read c.self.inside.odd c.self.inside.classes _ (rw c.class_read.ensures.value at c.find.ensures))
