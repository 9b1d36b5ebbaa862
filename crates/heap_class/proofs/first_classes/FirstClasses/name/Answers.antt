use Rattle.std.proofs.Common.{sym, ◌∙◌}
use Rattle.heap_class.proofs.Front.{taken_classes_rejoin_dropped, same_class_name}
use Rattle.heap_class.proofs.first_classes.FirstClasses.name.Goals as goal

pub returns-clause-value : goal.returns-clause-value
returns-clause-value c = c.name.ensures.value ∙ sym (same_class_name _ _ _ (taken_classes_rejoin_dropped _ _ _ c.self.view_is) _ c.requires)
