use Rattle.std.proofs.Common.{◌∙◌, [], ◌++◌, subst, sym}
use Rattle.std.proofs.lemmas.Result.{err_from_is_err_and}
use Rattle.heap_trail.specs.Machine.{Machine}
use Rattle.heap_world.specs.Legal.{IsLegal}
use Rattle.heap_orders.proofs.CycleSteps.{led_none, led_on, none_waits, stops_now, stops_on, sweeping_begins, sweeping_ends, sweeping_on, waits_less}
use Rattle.heap_orders.proofs.cycle.sweep_all.Goals as goal

pub loop-region-init : goal.loop-region-init
loop-region-init g c =
    let legal = subst (λ (m : Machine). IsLegal m.trail.current) c.machine.ensures c.world.ensures.legal in
    record { swept = ([], sweeping_begins (g.S.Steps.seen c.args.steps.now) legal, led_none (g.S.Steps.since c.args.steps.now c.args.by.now)); still = c.requires }

pub loop-region-preserved : goal.loop-region-preserved
loop-region-preserved g c =
    let here = g.S.Steps.seen c.loop-region.steps in
    let next = g.S.Steps.seen c.sweep_region.new.steps in
    let so = c.loop-region.invariant.swept in
    let more = c.in_ok-removed.ensures.swept in
    record {
      swept = (
        so.0 ++ more.0,
        sweeping_on (g.S.Steps.seen c.args.steps.now) here next so.0 more.0 c.loop-region.swept c.in_ok-removed.removed c.in-Some.region (sym c.waiting_region.ensures ∙ c.in-Some.is) so.1 more.1,
        led_on (g.S.Steps.since c.args.steps.now c.args.by.now) (g.S.Steps.since c.loop-region.steps c.loop-region.by) (g.S.Steps.since c.sweep_region.new.steps c.sweep_region.new.by) so.0 more.0 so.2 more.2,
      );
      still = c.sweep_region.ensures.still;
    }

pub loop-region-smaller : goal.loop-region-smaller
loop-region-smaller g c =
    let more = c.in_ok-removed.ensures.swept in
    waits_less (g.S.Steps.seen c.loop-region.steps) (g.S.Steps.seen c.sweep_region.new.steps) more.0 c.in_ok-removed.removed c.in-Some.region (sym c.waiting_region.ensures ∙ c.in-Some.is) more.1

pub returns-clause-swept : goal.returns-clause-swept
returns-clause-swept g c =
    let so = c.loop-region.invariant.swept in (
      so.0,
      sweeping_ends (g.S.Steps.seen c.args.steps.now) (g.S.Steps.seen c.loop-region.steps) so.0 c.loop-region.swept (sym c.waiting_region.ensures ∙ none_waits c.waiting_region.result c.in_default.not-Some) so.1,
      so.2,
    )

pub returns-in_err-removed-clause-refused : goal.returns-in_err-removed-clause-refused
returns-in_err-removed-clause-refused g c =
    let p = err_from_is_err_and c.from_residual.result c.from_residual.ensures.1 in
    let start = g.S.Steps.seen c.args.steps.now in
    let here = g.S.Steps.seen c.loop-region.steps in
    let next = g.S.Steps.seen c.sweep_region.new.steps in
    let e = c.in_err-removed.field-0.0 in
    let so = c.loop-region.invariant.swept in
    let same = c.in_err-removed.ensures.unchanged in
    rw (p.1, p.2) (
      so.0 ++ [],
      λ b. stops_on g.S.Steps.denies b b start here next so.0 [] 0 c.loop-region.swept e (so.1.lead b) (stops_now g.S.Steps.denies b here next e (c.in_err-removed.ensures.refused b) same.0),
      led_on (g.S.Steps.since c.args.steps.now c.args.by.now) (g.S.Steps.since c.loop-region.steps c.loop-region.by) (g.S.Steps.since c.sweep_region.new.steps c.sweep_region.new.by) so.0 [] so.2 same.1,
    )
