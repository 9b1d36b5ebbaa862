use Rattle.std.proofs.Common.{◌≡◌, ℕ, drop, length, slice_index_or}
use Rattle.heap_pins.specs.Walk.{dead_state}
use Rattle.heap_pins.proofs.cells.restore_dead.Given as goal

abbrev pub invariant-loop-cell : goal.invariant-loop-cell
invariant-loop-cell l = record {
  count : length l.states ≡ length l.fn.states;
  each : (c : ℕ) → dead_state (drop l.cell-index l.dead) c (slice_index_or l.states c 0) ≡ dead_state l.dead c (slice_index_or l.fn.states c 0);
}
