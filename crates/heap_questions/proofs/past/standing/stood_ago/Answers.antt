use Rattle.std.proofs.Common.{◌+◌, ap, sym, ◌∙◌}
use Rattle.heap_trail.specs.Trail.{state_ago}
use Rattle.heap_trail.proofs.RetainedRecords.{has_record}
use Rattle.heap_questions.specs.PastTrails.{stood_before}
use Rattle.heap_questions.proofs.PastTrails.{stands_by, stood_step}
use Rattle.heap_questions.proofs.past.standing.stood_ago.Goals as goal

pub loop-n-init : goal.loop-n-init
loop-n-init c = stands_by c.regions.result.now c.world.result.now c.args.machine.now.trail c.args.at c.has_object-stood.result c.regions.ensures c.world.ensures.value c.has_object-stood.ensures

pub loop-n-preserved : goal.loop-n-preserved
loop-n-preserved c =
    let t = c.args.machine.now.trail in
    let n = c.loop-n.n in
    let left = c.record_ago.result.now in
    let r = has_record c.args.machine.now.keep t n left c.place-place.ensures.trail c.record_ago.ensures in
    c.stood_before-stood.ensures ∙ ap (stood_before left c.args.at) c.loop-n.invariant ∙ sym (stood_step left r.0 (state_ago (n + 1) t) (state_ago n t) c.args.at r.1)
