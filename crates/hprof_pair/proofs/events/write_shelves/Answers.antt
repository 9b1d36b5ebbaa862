use Rattle.std.proofs.lemmas.Result.{err_from_is_err_and}
use Rattle.hprof_session.specs.Places.{place_events}
use Rattle.hprof_lines.proofs.Puttings.{putting_step, putting_step_failed, putting_stopped, putting_ends}
use Rattle.hprof_pair.specs.Events.{shelved_count}
use Rattle.hprof_pair.specs.Pairs.{pair_told}
use Rattle.hprof_pair.proofs.Opened.{each_begins, opened_each, closed_each}
use Rattle.hprof_pair.proofs.events.write_shelves.Goals as goal

pub loop-n-init : goal.loop-n-init
loop-n-init g c = rw c.new-lines.ensures (each_begins _ _ _)

pub loop-n-preserved : goal.loop-n-preserved
loop-n-preserved g c =
    putting_step _ _ _ _ _ _ _ _ _ _ (opened_each (place_events (pair_told c.args.pair.now).first.all.plan.roots) c.loop-n.n (shelved_count (pair_told c.args.pair.now)) (rw c.shelved_count-count.ensures at c.loop-n-test.true))
    c.loop-n.invariant c.in_ok-push_place.ensures.done c.if-not-put_some.ensures

pub returns-then-not-put_some : goal.returns-then-not-put_some
returns-then-not-put_some g c =
    putting_step_failed _ _ _ _ _ _ _ _ _ (opened_each (place_events (pair_told c.args.pair.now).first.all.plan.roots) c.loop-n.n (shelved_count (pair_told c.args.pair.now)) (rw c.shelved_count-count.ensures at c.loop-n-test.true))
    c.loop-n.invariant c.in_ok-push_place.ensures.done c.if-not-put_some.ensures

pub returns-in_err-push_place : goal.returns-in_err-push_place
returns-in_err-push_place g c =
    let e = err_from_is_err_and c.from_residual.result c.from_residual.ensures.1 in
    rw e.1 (putting_stopped _ _ _ _ _ c.loop-n.invariant)

pub returns : goal.returns
returns g c =
    putting_ends _ _ _ _ _ _ _ (closed_each (place_events (pair_told c.args.pair.now).first.all.plan.roots) c.loop-n.n (shelved_count (pair_told c.args.pair.now)) (rw c.shelved_count-count.ensures at c.loop-n-test.false)) c.loop-n.invariant c.put_lines.ensures.put
