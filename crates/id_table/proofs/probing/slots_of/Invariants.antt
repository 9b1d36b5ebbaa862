use Rattle.std.specs.Prelude.{◌<◌, ◌^◌, length}
use Rattle.id_table.specs.Tables.{AreNumbersPlaced}
use Rattle.id_table.proofs.probing.slots_of.Given as goal

abbrev pub invariant-loop-i : goal.invariant-loop-i
invariant-loop-i l = record {
  placed : AreNumbersPlaced l.slots.items l.ids l.i;
  size : length l.slots.items < 2 ^ 32;
}
