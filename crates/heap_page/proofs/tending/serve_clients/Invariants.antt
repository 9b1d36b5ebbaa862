use Rattle.std.proofs.Common.{◌-◌, length}
use Rattle.heap_page.proofs.tending.serve_clients.Given as goal

abbrev pub decreases-loop-i : goal.decreases-loop-i
decreases-loop-i g l = length l.clients.items - l.i
