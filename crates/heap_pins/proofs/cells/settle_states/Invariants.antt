use Rattle.std.proofs.Common.{◌≡◌, ◌<◌, ◌≤◌, ℕ, length, slice_index_or}
use Rattle.heap_pins.specs.Pin.{state_kept}
use Rattle.heap_pins.proofs.cells.settle_states.Given as goal

abbrev pub invariant-loop-cell : goal.invariant-loop-cell
invariant-loop-cell l = record {
  count : length l.states ≡ length l.fn.states;
  done : (c : ℕ) → c < l.cell → slice_index_or l.states c 0 ≡ state_kept l.ended (slice_index_or l.bytes c 0) (slice_index_or l.fn.states c 0);
  others : (c : ℕ) → l.cell ≤ c → slice_index_or l.states c 0 ≡ slice_index_or l.fn.states c 0;
}
