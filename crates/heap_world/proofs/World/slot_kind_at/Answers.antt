use Rattle.heap_world.proofs.Slot.{class_by, instance_by, array_by, prim_by}
use Rattle.heap_world.proofs.World.slot_kind_at.Goals as goal

pub slots-requires : goal.slots-requires
slots-requires c = class_by _ _ c.args.at _ _ c.self.invariant c.self.view_is c.requires c.in-Instance.ensures

pub returns-in-Instance : goal.returns-in-Instance
returns-in-Instance c = instance_by _ _ c.args.at c.args.slot _ _ _ c.self.view_is c.in-Instance.ensures c.slots.ensures.value c.kind_at.ensures

pub returns-in-Array : goal.returns-in-Array
returns-in-Array c = array_by _ _ c.args.at c.args.slot _ _ _ c.self.view_is c.in-Array.ensures c.len.ensures.value c.kind_within.ensures

pub returns-in-Prim : goal.returns-in-Prim
returns-in-Prim c = prim_by _ _ c.args.at c.args.slot _ _ _ c.self.view_is c.in-Prim.ensures c.len-in-Prim.ensures.value c.kind_within-in-Prim.ensures
