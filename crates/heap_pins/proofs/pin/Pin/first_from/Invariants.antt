use Rattle.std.proofs.Common.{◌≤◌, ◌*◌, ◌+◌}
use Rattle.heap_pins.specs.Pin.{state_seen}
use Rattle.heap_pins.proofs.FirstCells.{NoneUpTo}
use Rattle.heap_pins.proofs.pin.Pin.first_from.Given as goal

abbrev pub invariant-loop-r : goal.invariant-loop-r
invariant-loop-r l = record {
  few : l.from ≤ 256;
  low : 256 * l.region + l.cell ≤ 256 * l.r + l.from;
  none : NoneUpTo (state_seen l.self l.world.regions) (256 * l.region + l.cell) l.r l.from;
}
