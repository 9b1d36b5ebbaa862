use Rattle.std.proofs.Common.{◌≡◌, subst, Some, arith}
use Rattle.std.specs.Prelude.{slice_get}
use Rattle.heap_trail.specs.Trail.{Trail}
use Rattle.heap_questions.proofs.PastTrails.{record_past, within_past}
use Rattle.heap_questions.proofs.past.trail.PastTrail.record_ago.Goals as goal

pub overflow_add-self-inside : goal.overflow_add-self-inside
overflow_add-self-inside c = omega (arith, within_past c.self.inside.machine.now.trail c.args.self.now c.self.inside.ago c.args.n c.self.view_is c.requires, c.retained_count-count.ensures, c.retained_count-count.type_inv)

pub record_ago-requires : goal.record_ago-requires
record_ago-requires c = within_past c.self.inside.machine.now.trail c.args.self.now c.self.inside.ago c.args.n c.self.view_is c.requires

pub returns : goal.returns
returns c =
    subst (λ (t : Trail). slice_get t.records c.args.n ≡ Some c.record_ago.result.now) c.self.view_is
    (record_past c.self.inside.machine.now.trail c.self.inside.ago c.args.n c.record_ago.result.now c.record_ago.ensures)
