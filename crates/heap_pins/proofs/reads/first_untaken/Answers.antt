use Rattle.std.proofs.Common.{◌≡◌, ◌∙◌, [], ap, arith}
use Rattle.heap_pins.specs.Pin.{state_kept}
use Rattle.heap_pins.specs.States.{cell_of, state_by}
use Rattle.heap_pins.proofs.FirstCells.{first_of_storage, none_of_storage, none_of_storage_goes_on}
use Rattle.heap_pins.proofs.reads.first_untaken.Goals as goal

pub returns-then-state_kept-eq-LIVE : goal.returns-then-state_kept-eq-LIVE
returns-then-state_kept-eq-LIVE c r =
    let is : c.state_kept.result ≡ state_by c.args.ended [] c.args.storage.now (cell_of r c.loop-cell.cell) = c.state_kept.ensures
    ∙ ap (state_kept c.args.ended 0) c.storage_state.ensures in
    first_of_storage (state_by c.args.ended [] c.args.storage.now) r c.args.from c.loop-cell.cell c.state_kept.result c.loop-cell.invariant.low
    (omega (arith, c.loop-cell-test.true, c.cells-cell-end.ensures.limit)) (c.loop-cell.invariant.none r) is (omega (arith, c.if-state_kept-eq-LIVE.true))

pub loop-cell-preserved : goal.loop-cell-preserved
loop-cell-preserved c = record {
  low = omega (arith, c.loop-cell.invariant.low);
  none = λ r.
      let is : c.state_kept.result ≡ state_by c.args.ended [] c.args.storage.now (cell_of r c.loop-cell.cell) = c.state_kept.ensures
      ∙ ap (state_kept c.args.ended 0) c.storage_state.ensures in
      none_of_storage_goes_on (state_by c.args.ended [] c.args.storage.now) r c.args.from c.loop-cell.cell c.state_kept.result (c.loop-cell.invariant.none r) is c.if-state_kept-eq-LIVE.false;
}

pub returns : goal.returns
returns c r = none_of_storage c.args.ended [] c.args.storage.now r c.args.from c.loop-cell.cell (omega (arith, c.loop-cell-test.false, c.cells-cell-end.ensures.value)) (c.loop-cell.invariant.none r)
