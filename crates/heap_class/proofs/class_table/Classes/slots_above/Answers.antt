use Rattle.std.proofs.Common.{◌≡◌, subst, true}
use Rattle.std.specs.Option.{option_map_or}
use Rattle.heap_class.specs.Classes.{is_instance_class}
use Rattle.heap_class.proofs.Slots.{instance_class_is_in_table}
use Rattle.heap_class.proofs.class_table.Classes.slots_above.Goals as goal

pub slots-requires : goal.slots-requires
slots-requires c =
    instance_class_is_in_table c.args.self.now c.in-Some.class
    (subst (λ o. option_map_or (is_instance_class c.args.self.now) o true ≡ true) c.in-Some.is c.requires)
