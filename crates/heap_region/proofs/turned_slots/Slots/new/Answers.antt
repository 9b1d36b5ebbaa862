use Rattle.std.proofs.Common.{◌≡◌, length, ap, arith}
use Rattle.std.proofs.lemmas.List.{length-replicate}
use Rattle.heap_region.specs.declared.slots.Slot.{Slot}
use Rattle.heap_region.specs.declared.slots.Slot.TheVariants.{Empty}
use Rattle.heap_region.proofs.SlotReads.{empty_slots_shown}
use Rattle.heap_region.proofs.turned_slots.Slots.new.Goals as goal

pub push_reserved-requires : goal.push_reserved-requires
push_reserved-requires c =
    let none : Slot = Empty in
    omega (arith, ap length c.loop-i.invariant.slots, length-replicate c.loop-i.i none, c.loop-i.slots.ok.0, c.loop-i.invariant.places)

pub returns : goal.returns
returns c =
    let all : c.loop-i.i ≡ c.args.count = omega arith in
    rw (c.loop-i.invariant.slots, all) (empty_slots_shown _ c.args.count)
