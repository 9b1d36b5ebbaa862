use Rattle.std.proofs.Common.{◌∙◌, ap, arith, length, slice_index_or}
use Rattle.std.proofs.lemmas.List.{get_or-set_other}
use Rattle.heap_pins.specs.States.{storage_states}
use Rattle.heap_pins.proofs.AddedCopies.{states_of_all_cells}
use Rattle.heap_pins.proofs.CellStates.{no_bytes_are_of, one_more_byte_is_of}
use Rattle.heap_pins.proofs.OpenedPins.{length_of_blank, zero_in_blank}
use Rattle.heap_pins.proofs.cells.storage_states.Goals as goal

pub loop-cell-init : goal.loop-cell-init
loop-cell-init c = record {
  done = λ r. no_bytes_are_of (storage_states c.args.storage.now) r c.blank-states.result (ap length c.blank-states.ensures ∙ length_of_blank);
  others = λ k le. ap (λ l. slice_index_or l k 0) c.blank-states.ensures ∙ zero_in_blank k;
}

pub loop-cell-preserved : goal.loop-cell-preserved
loop-cell-preserved c = record {
  done = λ r. one_more_byte_is_of (storage_states c.args.storage.now) r c.loop-cell.cell c.loop-cell.states c.storage_state.result (c.loop-cell.invariant.done r) (omega (arith, c.loop-cell-test.true, c.cells-cell-end.ensures.limit)) c.storage_state.ensures;
  others = λ k le. get_or-set_other c.loop-cell.states c.loop-cell.cell k c.storage_state.result 0 (λ e. omega (arith, le, e)) ∙ c.loop-cell.invariant.others k (omega (arith, le));
}

pub returns : goal.returns
returns c r = states_of_all_cells c.args.storage.now r c.loop-cell.cell c.loop-cell.states (omega (arith, c.loop-cell-test.false, c.cells-cell-end.ensures.value)) (c.loop-cell.invariant.done r) c.loop-cell.invariant.others
