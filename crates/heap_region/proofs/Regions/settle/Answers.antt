use Rattle.std.proofs.Common.{refl}
use Rattle.heap_region.proofs.Regions.settle.Goals as goal

pub invariant_of-self : goal.invariant_of-self
invariant_of-self c = rw c.settle.ensures c.self.invariant

pub returns : goal.returns
returns c = rw (← c.self.view_is, c.settle.ensures) refl
