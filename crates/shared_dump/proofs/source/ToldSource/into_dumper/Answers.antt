use Rattle.std.proofs.Common.{subst}
use Rattle.shared_dump.specs.Supplies.{ToldSupply, IsSupplied}
use Rattle.shared_dump.proofs.source.ToldSource.into_dumper.Goals as goal

pub returns-clause-supplied : goal.returns-clause-supplied
returns-clause-supplied g c = subst (λ (t : ToldSupply). IsSupplied g.L.Heap.config t) c.self.view_is c.self.invariant
