use Rattle.std.proofs.Common.{arith}
use Rattle.heap_region.proofs.Runs.{no_run_found, run_found, scan_begins, scan_past_empty, scan_past_object}
use Rattle.heap_region.proofs.turned_slots.Slots.first_run.Goals.{in-Some, in_default+else-region-first}
use Rattle.heap_region.proofs.turned_slots.Slots.first_run.Goals as goal

pub loop-region-init : goal.loop-region-init
loop-region-init c = scan_begins c.args.self.now c.args.start c.args.count c.requires.area c.requires.count.0

pub overflow_add-first-in_default : goal.overflow_add-first-in_default
overflow_add-first-in_default c = omega (arith, c.loop-region.invariant.far, c.loop-region-test.true, c.requires.few, c.requires.count.1)

pub returns-then-region-first-clause-value : goal.returns-then-region-first-clause-value
returns-then-region-first-clause-value c =
    run_found c.args.self.now c.args.start c.args.count c.loop-region.first c.loop-region.region c.requires.area c.requires.count.0 c.loop-region.invariant c.loop-region.auto.region c.in_default.ensures.value (omega (arith, c.loop-region-test.true, c.len-region-end.ensures)) (omega (arith, c.if-region-first.true))

pub loop-region-preserved : goal.loop-region-preserved
loop-region-preserved c =
    elim c.match-at.branch [
      | in-Some w ↦ rw w.first-is (scan_past_object c.args.self.now c.args.start c.args.count c.loop-region.first c.loop-region.region c.requires.area c.requires.count.0 c.loop-region.invariant c.loop-region.auto.region _ _ w.in-Some.ensures.value w.span.ensures.value w.span.ensures.limit)
      | in_default+else-region-first w ↦ rw w.first-is (scan_past_empty c.args.self.now c.args.start c.args.count c.loop-region.first c.loop-region.region c.requires.area c.requires.count.0 c.loop-region.invariant c.loop-region.auto.region w.in_default.ensures.value (omega (arith, w.if-region-first.false)))
    ]

pub returns-clause-value : goal.returns-clause-value
returns-clause-value c = no_run_found c.args.self.now c.args.start c.args.count c.loop-region.first c.loop-region.region c.loop-region.invariant (omega (arith, c.loop-region-test.false))
