-- Classes of a session, their names, and the lines that define them.
use Rattle.std.specs.Prelude.{◌≡◌, [], length}
use Rattle.heap_class.specs.declared.ClassLimits.{ClassLimits}
use Rattle.hprof_plan.specs.Accepted.{AreAccepted, class_lines, class_names}
use Rattle.hprof_plan.specs.Names.{AreGiven}
use Rattle.hprof_plan.specs.declared.define.Defined.{Defined}

-- a heap with these limits takes the classes, these are their lines, and these are their names, each of which was given
pub record AreDefined (limits : ClassLimits) (d : Defined) : Type 0 where
  pub accepted : AreAccepted limits [] d.classes
  pub lines : d.lines ≡ class_lines d.classes
  pub names : d.names.keys ≡ class_names d.classes
  pub given : AreGiven limits (length d.classes) (class_names d.classes)
