use Rattle.heap_class.proofs.Slots.{instance_class_is_in_table}
use Rattle.hprof_plan.proofs.dump_classes.room_under.Goals as goal

pub slots-requires : goal.slots-requires
slots-requires c = instance_class_is_in_table c.args.classes.now c.in-Some.class (rw c.in-Some.is at c.requires)
