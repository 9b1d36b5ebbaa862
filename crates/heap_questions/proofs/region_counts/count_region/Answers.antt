use Rattle.std.proofs.Common.{◌≡◌, ◌∙◌, ◌<◌, None, Some, arith, false, length, sym, true}
use Rattle.heap_questions.proofs.CountedCells.{no_object, one_dead, one_live}
use Rattle.heap_questions.proofs.region_counts.count_region.Goals as goal
use Rattle.heap_questions.proofs.region_counts.count_region.Goals.{in-Some-true, in-Some-false, in-None}

pub loop-cell-preserved : goal.loop-cell-preserved
loop-cell-preserved c =
    let cells = c.args.storage.now.cells in
    let n = c.loop-cell.cell in
    let lt : n < length cells = omega (arith, c.loop-cell-test.true, c.cells-cell-end.ensures.value) in
    elim c.match-liveness.branch [
      | in-Some-true w ↦
          let told : c.liveness.result ≡ Some true = cc in
          let m = one_live cells n lt (sym c.liveness.ensures ∙ told) in
          record {
            live = omega (arith, w.live-is, m.0, c.loop-cell.invariant.live);
            dead = omega (arith, w.dead-is, m.1, c.loop-cell.invariant.dead);
            few = omega (arith, w.live-is, w.dead-is, c.loop-cell.invariant.few);
          }
      | in-Some-false w ↦
          let told : c.liveness.result ≡ Some false = cc in
          let m = one_dead cells n lt (sym c.liveness.ensures ∙ told) in
          record {
            live = omega (arith, w.live-is, m.0, c.loop-cell.invariant.live);
            dead = omega (arith, w.dead-is, m.1, c.loop-cell.invariant.dead);
            few = omega (arith, w.live-is, w.dead-is, c.loop-cell.invariant.few);
          }
      | in-None w ↦
          let told : c.liveness.result ≡ None = cc in
          let m = no_object cells n lt (sym c.liveness.ensures ∙ told) in
          record {
            live = omega (arith, w.live-is, m.0, c.loop-cell.invariant.live);
            dead = omega (arith, w.dead-is, m.1, c.loop-cell.invariant.dead);
            few = omega (arith, w.live-is, w.dead-is, c.loop-cell.invariant.few);
          }
    ]
