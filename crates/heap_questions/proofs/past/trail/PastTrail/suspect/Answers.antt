use Rattle.std.proofs.Common.{ap, arith}
use Rattle.heap_trail.specs.Trail.{retained}
use Rattle.heap_trail.proofs.Rewinds.{retained_after_rewind}
use Rattle.heap_questions.proofs.past.trail.PastTrail.suspect.Goals as goal

pub suspect-requires : goal.suspect-requires
suspect-requires c = omega (arith, c.requires, ap retained c.self.view_is, retained_after_rewind c.self.inside.ago c.self.inside.machine.now.trail)
