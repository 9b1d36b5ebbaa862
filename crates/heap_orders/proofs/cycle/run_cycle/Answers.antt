use Rattle.std.proofs.Common.{◌+◌, ◌++◌, false, true}
use Rattle.std.proofs.lemmas.Result.{err_from_is_err_and}
use Rattle.heap_orders.proofs.CycleSteps.{leads_on, led_on, stops_on, whole_cycle}
use Rattle.heap_orders.proofs.cycle.run_cycle.Goals as goal

pub mark_cycle-requires-clause-swept : goal.mark_cycle-requires-clause-swept
mark_cycle-requires-clause-swept g c = c.in_ok-before.ensures.swept.1.none

pub returns-in_err-before-clause-runs : goal.returns-in_err-before-clause-runs
returns-in_err-before-clause-runs g c =
    let p = err_from_is_err_and c.from_residual.result c.from_residual.ensures.1 in
    let s = c.in_err-before.ensures.refused in
    rw (p.1, p.2) (s.0, s.1 false, s.2)

pub returns-in_err-condemned-clause-runs : goal.returns-in_err-condemned-clause-runs
returns-in_err-condemned-clause-runs g c =
    let p = err_from_is_err_and c.from_residual-in_err-condemned.result c.from_residual-in_err-condemned.ensures.1 in
    let s = c.in_ok-before.ensures.swept in
    let t = c.in_err-condemned.ensures.refused in
    rw (p.1, p.2) (
      s.0 ++ t.0,
      stops_on g.S.Steps.denies false false _ _ _ s.0 t.0 0 c.in_ok-before.before c.in_err-condemned.field-0.0 (s.1.lead false) t.1,
      led_on (g.S.Steps.since c.args.steps.now c.args.by.now) (g.S.Steps.since c.sweep_all.new.steps c.sweep_all.new.by) (g.S.Steps.since c.mark_cycle.new.steps c.mark_cycle.new.by) s.0 t.0 s.2 t.2,
    )

pub returns-in_err-after-clause-runs : goal.returns-in_err-after-clause-runs
returns-in_err-after-clause-runs g c =
    let p = err_from_is_err_and c.from_residual-in_err-after.result c.from_residual-in_err-after.ensures.1 in
    let start = g.S.Steps.seen c.args.steps.now in
    let swept = g.S.Steps.seen c.sweep_all.new.steps in
    let marked = g.S.Steps.seen c.mark_cycle.new.steps in
    let s = c.in_ok-before.ensures.swept in
    let t = c.in_ok-condemned.ensures.marked in
    let u = c.in_err-after.ensures.refused in
    let first = g.S.Steps.since c.args.steps.now c.args.by.now in
    let then = g.S.Steps.since c.mark_cycle.new.steps c.mark_cycle.new.by in
    let lead = leads_on false false true start swept marked s.0 t.0 0 c.in_ok-before.before c.in_ok-condemned.condemned 0 (s.1.lead false) t.1.0 in
    let led = led_on first (g.S.Steps.since c.sweep_all.new.steps c.sweep_all.new.by) then s.0 t.0 s.2 t.2 in
    rw (p.1, p.2) (
      (s.0 ++ t.0) ++ u.0,
      stops_on g.S.Steps.denies false true start marked _ (s.0 ++ t.0) u.0 (0 + c.in_ok-condemned.condemned) (c.in_ok-before.before + 0) c.in_err-after.field-0.0 lead (u.1 true),
      led_on first then (g.S.Steps.since c.sweep_all-2.new.steps c.sweep_all-2.new.by) (s.0 ++ t.0) u.0 led u.2,
    )

pub returns-clause-runs : goal.returns-clause-runs
returns-clause-runs g c =
    let s = c.in_ok-before.ensures.swept in
    let t = c.in_ok-condemned.ensures.marked in
    let u = c.in_ok-after.ensures.swept in
    let first = g.S.Steps.since c.args.steps.now c.args.by.now in
    let then = g.S.Steps.since c.mark_cycle.new.steps c.mark_cycle.new.by in
    let led = led_on first (g.S.Steps.since c.sweep_all.new.steps c.sweep_all.new.by) then s.0 t.0 s.2 t.2 in (
      (s.0 ++ t.0) ++ u.0,
      whole_cycle _ _ _ _ s.0 t.0 u.0 _ _ _ s.1 t.1 u.1,
      led_on first then (g.S.Steps.since c.sweep_all-2.new.steps c.sweep_all-2.new.by) (s.0 ++ t.0) u.0 led u.2,
    )
