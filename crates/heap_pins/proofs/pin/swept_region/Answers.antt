use Rattle.std.proofs.Common.{arith}
use Rattle.heap_pins.proofs.KeptSteps.{sweep_of_none_touches_none, sweep_of_some_touches_its_region}
use Rattle.heap_pins.proofs.pin.swept_region.Goals as goal

pub returns-then-len-eq0 : goal.returns-then-len-eq0
returns-then-len-eq0 c = sweep_of_none_touches_none c.args.region c.args.dead.now (omega (arith, c.len.ensures, c.if-len-eq0.true))

pub returns-else-len-eq0 : goal.returns-else-len-eq0
returns-else-len-eq0 c = sweep_of_some_touches_its_region c.args.region c.args.dead.now (λ z. omega (arith, c.len.ensures, c.if-len-eq0.false, z))
