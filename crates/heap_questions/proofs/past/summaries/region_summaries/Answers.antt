use Rattle.std.proofs.Common.{◌∙◌, ◌+◌, ap, arith, subst, sym}
use Rattle.heap_trail.specs.Trail.{state_ago}
use Rattle.heap_trail.proofs.RetainedRecords.{has_record}
use Rattle.heap_world.specs.State.{HeapState}
use Rattle.heap_questions.specs.RegionSummaries.{HaveFew, summaries, summaries_before}
use Rattle.heap_questions.proofs.PastIds.{legal_ago}
use Rattle.heap_questions.proofs.PastRegions.{few_told, record_tells_regions}
use Rattle.heap_questions.proofs.PastTrails.{reclaim_cells}
use Rattle.heap_questions.proofs.Walk.{now_is, regions_now}
use Rattle.heap_questions.proofs.past.summaries.region_summaries.Goals as goal

pub loop-n-init : goal.loop-n-init
loop-n-init c =
    let t = c.args.machine.now.trail in
    c.in_ok-all.ensures.told
    ∙ ap summaries (regions_now c.regions.result.now c.world.result.now t.current c.regions.ensures c.world.ensures.value)
    ∙ ap (λ (w : HeapState). summaries w.regions) (sym (now_is t))

pub undo_step-requires-clause-few : goal.undo_step-requires-clause-few
undo_step-requires-clause-few c =
    let t = c.args.machine.now.trail in
    let n = c.loop-n.n in
    let legal = legal_ago c.args.machine.now.keep t n c.place-place.ensures.trail (omega (arith, c.requires, c.loop-n-test.true)) in
    subst HaveFew (sym c.loop-n.invariant) (few_told (state_ago n t) legal)

pub undo_step-requires-clause-cells : goal.undo_step-requires-clause-cells
undo_step-requires-clause-cells c =
    let t = c.args.machine.now.trail in
    let n = c.loop-n.n in
    let left = c.record_ago.result.now in
    let r = has_record c.args.machine.now.keep t n left c.place-place.ensures.trail c.record_ago.ensures in
    reclaim_cells left r.0 (state_ago (n + 1) t) (state_ago n t) r.1

pub loop-n-preserved : goal.loop-n-preserved
loop-n-preserved c =
    let t = c.args.machine.now.trail in
    let n = c.loop-n.n in
    let left = c.record_ago.result.now in
    let r = has_record c.args.machine.now.keep t n left c.place-place.ensures.trail c.record_ago.ensures in
    c.undo_step.ensures ∙ ap (summaries_before left) c.loop-n.invariant ∙ sym (record_tells_regions left r.0 (state_ago (n + 1) t) (state_ago n t) r.1)

pub returns-clause-few : goal.returns-clause-few
returns-clause-few c =
    let t = c.args.machine.now.trail in
    let n = c.loop-n.n in
    let legal = legal_ago c.args.machine.now.keep t n c.place-place.ensures.trail (omega (arith, c.requires, c.loop-n.auto.n-end)) in
    subst HaveFew (sym c.loop-n.invariant) (few_told (state_ago n t) legal)
