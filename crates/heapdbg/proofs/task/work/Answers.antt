use Rattle.std.proofs.Common.{refl}
use Rattle.heapdbg.proofs.task.work.Goals as goal

pub returns-in-Serve : goal.returns-in-Serve
returns-in-Serve g c = rw c.in-Serve.is (refl, c.serve.ensures)
