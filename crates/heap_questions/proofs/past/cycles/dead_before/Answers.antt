use Rattle.std.proofs.Common.{◌≤◌, arith, subst}
use Rattle.heap_step.specs.declared.Undo.{Undo}
use Rattle.heap_questions.specs.Cycles.{dead_before, dead_limit}
use Rattle.heap_questions.proofs.past.cycles.dead_before.Goals as goal

pub overflow_add-result : goal.overflow_add-result
overflow_add-result c =
    let few = subst (λ (u : Undo). dead_before u c.args.now ≤ dead_limit) c.in-Sweep.is c.requires in
    omega (arith, few, c.len.ensures)
