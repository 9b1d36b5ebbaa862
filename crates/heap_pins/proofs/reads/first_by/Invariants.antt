use Rattle.std.proofs.Common.{◌≤◌, ℕ}
use Rattle.heap_pins.specs.States.{HasNone, state_by}
use Rattle.heap_pins.proofs.reads.first_by.Given as goal

abbrev pub invariant-loop-cell : goal.invariant-loop-cell
invariant-loop-cell l = record {
  low : l.from ≤ l.cell;
  none : (r : ℕ) → HasNone (state_by l.ended l.bytes l.storage) r l.from l.cell;
}
