use Rattle.std.proofs.Common.{◌≡◌, replicate, vec_capacity}
use Rattle.heap_region.specs.declared.slots.Slot.TheVariants.{Empty}
use Rattle.heap_region.proofs.turned_slots.Slots.new.Given as goal

abbrev pub invariant-loop-i : goal.invariant-loop-i
invariant-loop-i l =
    record {
      slots : l.slots.items ≡ replicate l.i Empty;
      places : vec_capacity l.slots ≡ l.count;
    }
