use Rattle.heap_world.proofs.ClassEvents.{array_class_held, class_is_new}
use Rattle.heap_world.proofs.World.define_array_class.Goals as goal

pub invariant_of-self : goal.invariant_of-self
invariant_of-self c = array_class_held _ _ c.args.name.now _ c.define_array.result c.self.invariant c.define_array.ensures.answered c.define_array.ensures.defined c.define_array.ensures.unchanged

pub returns : goal.returns
returns c = class_is_new _ _ _ _ c.define_array.result c.self.view_is c.define_array.ensures
