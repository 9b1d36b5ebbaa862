use Rattle.std.proofs.Common.{◌≡◌, ◌++◌, ◌≤◌, ◌-◌, length, map, take}
use Rattle.std.specs.Prelude.{flat_map}
use Rattle.heap_trail.specs.Listings.{listed_pin}
use Rattle.question_rows.specs.PinLists.{pin_text}
use Rattle.question_rows.proofs.pin_list.push_pins.Given as goal

abbrev pub invariant-loop-pin : goal.invariant-loop-pin
invariant-loop-pin l = record {
  lines : l.text.items ≡ l.fn.text.items ++ flat_map pin_text (map listed_pin (take l.count l.machine.pins.open_pins));
  few : l.count ≤ length l.machine.pins.open_pins;
}

abbrev pub decreases-loop-pin : goal.decreases-loop-pin
decreases-loop-pin l = length l.machine.pins.open_pins - l.count
