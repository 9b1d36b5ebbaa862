use Rattle.std.proofs.Common.{sym, ◌∙◌}
use Rattle.heap_class.proofs.Front.{taken_classes_rejoin_dropped, same_sup}
use Rattle.heap_class.proofs.first_classes.FirstClasses.sup.Goals as goal

pub returns-clause-value : goal.returns-clause-value
returns-clause-value c = c.sup.ensures.value ∙ sym (same_sup _ _ _ (taken_classes_rejoin_dropped _ _ _ c.self.view_is) _ c.requires)
