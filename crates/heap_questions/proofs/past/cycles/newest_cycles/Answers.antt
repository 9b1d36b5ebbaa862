use Rattle.std.proofs.Common.{◌≡◌, ◌+◌, ◌-◌, ◌≤◌, ◌++◌, [], ap, arith, subst, sym, ◌∙◌}
use Rattle.std.specs.Prelude.{reverse}
use Rattle.heap_trail.specs.Trail.{retained, state_ago}
use Rattle.heap_world.specs.State.{HeapState}
use Rattle.heap_trail.proofs.RetainedRecords.{has_record}
use Rattle.heap_questions.specs.Cycles.{AreLastCycles, before_cycles, cycle_by, dead_before, dead_limit}
use Rattle.heap_questions.specs.RegionCounts.{dead_objects}
use Rattle.heap_questions.proofs.DeadObjects.{few_legal}
use Rattle.heap_questions.proofs.EndedCycles.{AreCyclesTo, dead_step, left_few, no_cycles, one_step_more}
use Rattle.heap_questions.proofs.past.cycles.newest_cycles.Goals as goal

pub loop-n-init : goal.loop-n-init
loop-n-init c =
    no_cycles c.args.machine.now.trail c.count_dead-dead.result c.new-cycles.result.items
    (c.count_dead-dead.ensures.value ∙ ap (λ (w : HeapState). dead_objects w.regions) c.world.ensures.value) c.new-cycles.ensures.items

pub cycle_by-requires : goal.cycle_by-requires
cycle_by-requires c = left_few c.args.machine.now.trail c.loop-n.n c.loop-n.dead c.loop-n.left c.loop-n.cycles.items c.loop-n.invariant

pub dead_before-dead-requires : goal.dead_before-dead-requires
dead_before-dead-requires c =
    let t = c.args.machine.now.trail in
    let n = c.loop-n.n in
    let left = c.record_ago-record.result.now in
    let r = has_record c.args.machine.now.keep t n left c.place-place.ensures.trail c.record_ago-record.ensures in
    let few = few_legal (state_ago (n + 1) t) r.1.legal in
    let same = ap (dead_before left) c.loop-n.invariant.dead_is ∙ sym (dead_step left r.0 (state_ago (n + 1) t) (state_ago n t) r.1) in
    subst (λ k. k ≤ dead_limit) (sym same) few

pub loop-n-preserved : goal.loop-n-preserved
loop-n-preserved c =
    let t = c.args.machine.now.trail in
    let n = c.loop-n.n in
    let left = c.record_ago-record.result.now in
    let dead = c.loop-n.dead in
    let kept = c.loop-n.left in
    let r = has_record c.args.machine.now.keep t n left c.place-place.ensures.trail c.record_ago-record.ensures in
    let more : c.push_cycle.new.cycles.items ≡ c.loop-n.cycles.items ++ before_cycles (cycle_by left (t.place - n) dead kept) [] =
    c.in_ok-push_cycle.ensures.added ∙ ap (λ x. c.loop-n.cycles.items ++ before_cycles x []) c.cycle_by.ensures
    ∙ ap (λ p. c.loop-n.cycles.items ++ before_cycles (cycle_by left (p - n) dead kept) []) c.place-place.ensures.value in
    let all = one_step_more t n dead kept left c.loop-n.cycles.items c.push_cycle.new.cycles.items c.loop-n.invariant r more in
    subst (λ d. AreCyclesTo t (n + 1) d c.left_before-left.result c.push_cycle.new.cycles.items) (sym c.dead_before-dead.ensures)
    (subst (λ k. AreCyclesTo t (n + 1) (dead_before left dead) k c.push_cycle.new.cycles.items) (sym c.left_before-left.ensures) all)

pub returns-clause-cycles : goal.returns-clause-cycles
returns-clause-cycles c =
    let t = c.args.machine.now.trail in
    let all : c.loop-n.n ≡ retained t = omega (arith, c.loop-n-test.false, c.loop-n.auto.n-end, c.retained_count-n-end.ensures) in
    subst (λ m. AreLastCycles t m (reverse c.loop-n.cycles.items)) all c.loop-n.invariant.told
