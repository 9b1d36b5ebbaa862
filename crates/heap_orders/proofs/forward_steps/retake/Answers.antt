use Rattle.std.proofs.Common.{◌≡◌, ℕ, refl, ap, subst, arith}
use Rattle.std.proofs.lemmas.Result.{err_from_is_err_and}
use Rattle.heap_orders.specs.Redos.{Redo, TakesAgain}
use Rattle.heap_orders.proofs.RetakenSteps.{again_next, stops_before}
use Rattle.heap_orders.proofs.forward_steps.retake.Goals as goal

pub loop-done-init : goal.loop-done-init
loop-done-init c = record { taken = (refl, refl); ahead = omega arith }

pub retake_next-requires : goal.retake_next-requires
retake_next-requires c = omega (arith, c.loop-done.invariant.ahead, c.loop-done-test.true, c.requires)

pub loop-done-preserved : goal.loop-done-preserved
loop-done-preserved c =
    let so = c.loop-done.invariant in
    let one = c.in_ok-retake_next.ensures.taken in
    let ahead = ap (λ (r : Redo). r.ahead) one.5.1 in
    record {
      taken = again_next c.loop-done._done c.args.machine.now c.args.redo.now c.loop-done.machine c.loop-done.redo c.retake_next.new.machine c.retake_next.new.redo so.taken one;
      ahead = omega (arith, so.ahead, ahead, c.loop-done-test.true, c.requires);
    }

pub returns-clause-taken : goal.returns-clause-taken
returns-clause-taken c =
    let all : c.loop-done._done ≡ c.args.count = omega (arith, c.loop-done-test.false, c.loop-done.auto._done-end) in
    subst (λ (n : ℕ). TakesAgain n c.args.machine.now c.args.redo.now c.loop-done.machine c.loop-done.redo) all c.loop-done.invariant.taken

pub returns-in_err-retake_next-clause-stopped : goal.returns-in_err-retake_next-clause-stopped
returns-in_err-retake_next-clause-stopped c =
    let p = err_from_is_err_and c.from_residual.result c.from_residual.ensures.1 in
    let same = c.in_err-retake_next.ensures.unchanged in
    rw (p.1, p.2) (stops_before c.args.count c.loop-done._done c.args.machine.now c.args.redo.now c.loop-done.machine c.loop-done.redo c.retake_next.new.machine c.retake_next.new.redo c.in_err-retake_next.field-0.0 c.loop-done-test.true c.loop-done.invariant.taken same.0 same.1 c.in_err-retake_next.ensures.stopped)
