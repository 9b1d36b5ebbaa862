use Rattle.std.proofs.Common.{◌≡◌, ◌≤◌, ℕ, slice_index_or}
use Rattle.heap_pins.specs.States.{AreOf, storage_states}
use Rattle.heap_pins.proofs.cells.storage_states.Given as goal

abbrev pub invariant-loop-cell : goal.invariant-loop-cell
invariant-loop-cell l = record {
  done : (r : ℕ) → AreOf (storage_states l.storage) r l.cell l.states;
  others : (c : ℕ) → l.cell ≤ c → slice_index_or l.states c 0 ≡ 0;
}
