use Rattle.std.proofs.Common.{◌+◌, sym, subst}
use Rattle.heap_trail.specs.Trail.{state_ago}
use Rattle.heap_trail.proofs.RetainedRecords.{has_record}
use Rattle.heap_questions.specs.PastTrails.{HasCellSize}
use Rattle.heap_questions.proofs.PastTrails.{reclaim_cells, size_begins, size_step}
use Rattle.heap_questions.proofs.past.standing.cell_size_ago.Goals as goal

pub loop-n-init : goal.loop-n-init
loop-n-init c = record {
  value = size_begins c.world.result.now c.args.machine.now.trail c.args.region c.size_at-size.result c.world.ensures.value c.size_at-size.ensures.value;
  limit = c.size_at-size.ensures.limit;
}

pub size_before-size-requires-clause-cells : goal.size_before-size-requires-clause-cells
size_before-size-requires-clause-cells c =
    let t = c.args.machine.now.trail in
    let n = c.loop-n.n in
    let left = c.record_ago.result.now in
    let r = has_record c.args.machine.now.keep t n left c.place-place.ensures.trail c.record_ago.ensures in
    reclaim_cells left r.0 (state_ago (n + 1) t) (state_ago n t) r.1

pub loop-n-preserved : goal.loop-n-preserved
loop-n-preserved c =
    let t = c.args.machine.now.trail in
    let n = c.loop-n.n in
    let left = c.record_ago.result.now in
    let r = has_record c.args.machine.now.keep t n left c.place-place.ensures.trail c.record_ago.ensures in
    record {
      value = subst (HasCellSize (state_ago (n + 1) t) c.args.region) (sym c.size_before-size.ensures.value) (size_step left r.0 (state_ago (n + 1) t) (state_ago n t) c.args.region c.loop-n.size r.1 c.loop-n.invariant.value);
      limit = c.size_before-size.ensures.limit;
    }
