use Rattle.std.proofs.Common.{◌<◌, length}
use Rattle.heap_page.proofs.tending.make_room.Given as goal

abbrev pub invariant-loop-i : goal.invariant-loop-i
invariant-loop-i l = l.quietest < length l.clients.items
