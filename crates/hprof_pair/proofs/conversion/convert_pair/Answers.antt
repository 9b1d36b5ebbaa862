use Rattle.std.proofs.Common.{inl, inr, refl}
use Rattle.hprof_pair.proofs.SecondDumps.{second_after_first}
use Rattle.hprof_pair.proofs.conversion.convert_pair.Goals as goal

pub returns-in-Ok : goal.returns-in-Ok
returns-in-Ok g c = second_after_first _ _ _ _ _ _ c.in-Ok.read.0 c.in-Ok.read.1.now c.in-Ok.ensures.found.1 (rw c.walk_after-walk.ensures at c.convert_second.ensures)

pub returns-in-Err : goal.returns-in-Err
returns-in-Err g c = inr (inl ((λ h rest small is. cc (c.in-Err.ensures.only h rest small is)), refl, refl))
