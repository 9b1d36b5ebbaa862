use Rattle.std.proofs.Common.{arith}
use Rattle.heap_pins.proofs.kept.slot_for.Goals as goal

pub add_item-requires-clause-none : goal.add_item-requires-clause-none
add_item-requires-clause-none c = omega (arith, c.get.ensures, c.in-0.is)
