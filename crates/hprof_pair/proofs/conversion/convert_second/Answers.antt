use Rattle.std.proofs.Common.{inl, inr, refl}
use Rattle.hprof_pair.proofs.conversion.convert_second.Goals as goal

pub returns-in-Ok : goal.returns-in-Ok
returns-in-Ok g c = inl (c.in-Ok.read.0, c.in-Ok.read.1.now, c.in-Ok.ensures.found.1, rw c.walk_after-after.ensures at c.convert_walks.ensures)

pub returns-in-Err : goal.returns-in-Err
returns-in-Err g c = inr ((λ h rest small is. cc (c.in-Err.ensures.only h rest small is)), refl, refl)
