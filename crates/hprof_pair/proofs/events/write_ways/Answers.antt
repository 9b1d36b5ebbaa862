use Rattle.std.proofs.lemmas.Result.{err_from_is_err_and}
use Rattle.hprof_lines.proofs.Puttings.{putting_none, putting_step, putting_step_failed, putting_stopped, putting_ends}
use Rattle.hprof_pair.specs.declared.ways.Hold.TheVariants.{Root}
use Rattle.hprof_pair.proofs.Opened.{opened_ways, closed_ways}
use Rattle.hprof_pair.proofs.events.write_ways.Goals as goal

pub loop-way-init : goal.loop-way-init
loop-way-init g c = rw c.new-lines.ensures (putting_none _ _)

pub loop-way-preserved : goal.loop-way-preserved
loop-way-preserved g c =
    putting_step _ _ _ _ _ _ _ _ _ _ (opened_ways c.args.ways.now c.loop-way.way-index (record { number = 0; hold = Root 0 0 }) c.loop-way-test.true)
    c.loop-way.invariant c.in_ok-push_way.ensures c.if-not-put_some.ensures

pub returns-then-not-put_some : goal.returns-then-not-put_some
returns-then-not-put_some g c =
    putting_step_failed _ _ _ _ _ _ _ _ _ (opened_ways c.args.ways.now c.loop-way.way-index (record { number = 0; hold = Root 0 0 }) c.loop-way-test.true)
    c.loop-way.invariant c.in_ok-push_way.ensures c.if-not-put_some.ensures

pub returns-in_err-push_way : goal.returns-in_err-push_way
returns-in_err-push_way g c =
    let e = err_from_is_err_and c.from_residual.result c.from_residual.ensures.1 in
    rw e.1 (putting_stopped _ _ _ _ _ c.loop-way.invariant)

pub returns : goal.returns
returns g c = putting_ends _ _ _ _ _ _ _ (closed_ways c.args.ways.now c.loop-way.way-index c.loop-way-test.false) c.loop-way.invariant c.put_lines.ensures.put
