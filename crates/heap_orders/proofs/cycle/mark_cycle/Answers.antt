use Rattle.std.proofs.Common.{[], ◌++◌, false, arith}
use Rattle.std.proofs.lemmas.Result.{err_from_is_err_and}
use Rattle.heap_orders.proofs.CycleSteps.{led_none, led_on, marking_ends, marking_on, none_lead, place_on, stops_now, stops_on}
use Rattle.heap_orders.proofs.cycle.mark_cycle.Goals as goal

pub loop-condemned-init : goal.loop-condemned-init
loop-condemned-init g c = record {
  marked = ([], none_lead false (g.S.Steps.seen c.args.steps.now), led_none (g.S.Steps.since c.args.steps.now c.args.by.now));
  swept = c.requires.swept;
  still = c.requires.may;
}

pub loop-condemned-preserved : goal.loop-condemned-preserved
loop-condemned-preserved g c =
    let so = c.loop-condemned.invariant.marked in
    let more = c.in_ok-condemned.ensures.taken in
    let on = marking_on (g.S.Steps.seen c.args.steps.now) (g.S.Steps.seen c.loop-condemned.steps) (g.S.Steps.seen c.take_mark.new.steps) so.0 more.0 c.in_ok-condemned.condemned c.in-None.is so.1 more.1 in
    let led = led_on (g.S.Steps.since c.args.steps.now c.args.by.now) (g.S.Steps.since c.loop-condemned.steps c.loop-condemned.by) (g.S.Steps.since c.take_mark.new.steps c.take_mark.new.by) so.0 more.0 so.2 more.2 in
    record { marked = (so.0 ++ more.0, on.0, led); swept = on.1; still = c.take_mark.ensures.still }

pub loop-condemned-smaller : goal.loop-condemned-smaller
loop-condemned-smaller g c =
    let more = c.in_ok-condemned.ensures.taken in
    let p = place_on (g.S.Steps.seen c.loop-condemned.steps) (g.S.Steps.seen c.take_mark.new.steps) more.0 c.in_ok-condemned.condemned c.in-None.is more.1 in
    omega (arith, p.0, p.1)

pub returns-in-Some-clause-marked : goal.returns-in-Some-clause-marked
returns-in-Some-clause-marked g c =
    let so = c.loop-condemned.invariant.marked in
    let more = c.in_ok-condemned.ensures.taken in (
      so.0 ++ more.0,
      marking_ends (g.S.Steps.seen c.args.steps.now) (g.S.Steps.seen c.loop-condemned.steps) (g.S.Steps.seen c.take_mark.new.steps) so.0 more.0 c.in_ok-condemned.condemned c.in-Some.count c.in-Some.is so.1 more.1,
      led_on (g.S.Steps.since c.args.steps.now c.args.by.now) (g.S.Steps.since c.loop-condemned.steps c.loop-condemned.by) (g.S.Steps.since c.take_mark.new.steps c.take_mark.new.by) so.0 more.0 so.2 more.2,
    )

pub returns-in_err-condemned-clause-refused : goal.returns-in_err-condemned-clause-refused
returns-in_err-condemned-clause-refused g c =
    let p = err_from_is_err_and c.from_residual.result c.from_residual.ensures.1 in
    let start = g.S.Steps.seen c.args.steps.now in
    let here = g.S.Steps.seen c.loop-condemned.steps in
    let next = g.S.Steps.seen c.take_mark.new.steps in
    let e = c.in_err-condemned.field-0.0 in
    let so = c.loop-condemned.invariant.marked in
    let same = c.in_err-condemned.ensures.unchanged in
    rw (p.1, p.2) (
      so.0 ++ [],
      stops_on g.S.Steps.denies false false start here next so.0 [] 0 0 e so.1 (stops_now g.S.Steps.denies false here next e c.in_err-condemned.ensures.refused same.0),
      led_on (g.S.Steps.since c.args.steps.now c.args.by.now) (g.S.Steps.since c.loop-condemned.steps c.loop-condemned.by) (g.S.Steps.since c.take_mark.new.steps c.take_mark.new.by) so.0 [] so.2 same.1,
    )
