use Rattle.std.proofs.Common.{◌-◌, ◌≤◌, length}
use Rattle.question_words.proofs.PinStatuses.{IsNoneBefore}
use Rattle.question_words.proofs.at.status_of_pin.Given as goal

abbrev pub invariant-loop-listed : goal.invariant-loop-listed
invariant-loop-listed l = record {
  none : IsNoneBefore l.pin l.machine.pins.open_pins l.index;
  few : l.index ≤ length l.machine.pins.open_pins;
}

abbrev pub decreases-loop-listed : goal.decreases-loop-listed
decreases-loop-listed l = length l.machine.pins.open_pins - l.index
