use Rattle.std.proofs.Common.{refl, subst}
use Rattle.std.proofs.lemmas.Result.{err_from_is_err_and}
use Rattle.heap_trail.specs.declared.Action.TheVariants.{Step}
use Rattle.heap_trail.specs.Machine.{Machine, MayFail}
use Rattle.heap_orders.proofs.forward_steps.retake_next.Goals as goal

pub returns-clause-taken : goal.returns-clause-taken
returns-clause-taken c = (c.next.result.now, c.in_ok-step.field-0, c.step.new.self, c.next.ensures, c.in_ok-step.ensures.done, (refl, c.note_retaken.ensures))

pub returns-in_err-step-clause-stopped : goal.returns-in_err-step-clause-stopped
returns-in_err-step-clause-stopped c =
    let p = err_from_is_err_and c.from_residual.result c.from_residual.ensures.1 in
    let e = c.in_err-step.field-0.0 in
    rw (p.1, p.2) (c.next.result.now, c.next.ensures, subst (λ (x : Machine). MayFail c.args.machine.now (Step c.next.result.now) x e) c.in_err-step.ensures.unchanged c.in_err-step.ensures.refused)
