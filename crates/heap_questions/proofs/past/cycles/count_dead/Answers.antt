use Rattle.std.proofs.Common.{◌<◌, ◌∙◌, arith, ap, length}
use Rattle.std.proofs.lemmas.List.{take_all}
use Rattle.heap_region.specs.Pool.{RegionPool}
use Rattle.heap_questions.specs.RegionCounts.{dead_objects}
use Rattle.heap_questions.proofs.DeadObjects.{few_legal, one_region_more}
use Rattle.heap_questions.proofs.past.cycles.count_dead.Goals as goal

pub loop-region-preserved : goal.loop-region-preserved
loop-region-preserved c =
    let i = c.loop-region.invariant in
    let regions = c.regions-regions.result.now.regions in
    let r = c.loop-region.region in
    let within : r < length regions = omega (arith, c.loop-region-test.true, c.count-region-end.ensures.value) in
    let more = one_region_more regions r within in
    record {
      counted = omega (arith, i.counted, more, c.dead_in-dead.ensures.value);
      few = omega (arith, i.few, c.dead_in-dead.ensures.few);
    }

pub returns-clause-value : goal.returns-clause-value
returns-clause-value c =
    let regions = c.regions-regions.result.now.regions in
    c.loop-region.invariant.counted
    ∙ ap dead_objects (take_all c.loop-region.region regions (omega (arith, c.loop-region-test.false, c.count-region-end.ensures.value)))
    ∙ ap (λ (s : RegionPool). dead_objects s.regions) c.regions-regions.ensures

pub returns-clause-limit : goal.returns-clause-limit
returns-clause-limit c =
    let few = few_legal c.args.world.now c.requires in
    omega (arith, few, returns-clause-value c)
