use Rattle.heap_world.proofs.ClassEvents.{class_is_new, instance_held}
use Rattle.heap_world.proofs.World.define_class.Goals as goal

pub invariant_of-self : goal.invariant_of-self
invariant_of-self c = instance_held _ _ _ _ _ _ c.define.result c.self.invariant c.define.ensures.answered c.define.ensures.defined c.define.ensures.unchanged

pub returns : goal.returns
returns c = class_is_new _ _ _ _ c.define.result c.self.view_is c.define.ensures
