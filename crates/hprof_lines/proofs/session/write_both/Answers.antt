use Rattle.std.proofs.lemmas.Result.{err_from_is_err_and}
use Rattle.hprof_lines.specs.Objects.{objects_told}
use Rattle.hprof_lines.specs.Passes.{pass_events}
use Rattle.hprof_lines.specs.StaticObjects.{statics_events}
use Rattle.hprof_lines.proofs.Puttings.{cut_lines, then_lines}
use Rattle.hprof_lines.proofs.session.write_both.Goals as goal

pub returns-in_err-write_statics : goal.returns-in_err-write_statics
returns-in_err-write_statics g c = λ items whole.
    let e = err_from_is_err_and c.from_residual.result c.from_residual.ensures.1 in
    let o = objects_told c.args.all.now in
    rw e.1
    (cut_lines _ _ _ (statics_events c.args.pass o 0 o.plan.statics.items) (pass_events c.args.pass o 0 items) (rw c.as_slice-statics.ensures.value at c.in_err-write_statics.ensures))

pub returns-then-not-branch : goal.returns-then-not-branch
returns-then-not-branch g c = λ items whole.
    let o = objects_told c.args.all.now in
    cut_lines _ _ _ (statics_events c.args.pass o 0 o.plan.statics.items) (pass_events c.args.pass o 0 items)
    (rw (c.as_slice-statics.ensures.value, c.if-not-branch.true) at c.in_ok-write_statics.ensures)

pub returns : goal.returns
returns g c = λ items whole.
    let o = objects_told c.args.all.now in
    then_lines _ _ _ (statics_events c.args.pass o 0 o.plan.statics.items) (pass_events c.args.pass o 0 items) _
    (rw (c.as_slice-statics.ensures.value, c.if-not-branch.false) at c.in_ok-write_statics.ensures) (c.write_pass.ensures items whole)
