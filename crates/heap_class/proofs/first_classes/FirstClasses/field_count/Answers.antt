use Rattle.std.proofs.Common.{sym, ap, length, ◌∙◌}
use Rattle.heap_class.proofs.Front.{taken_classes_rejoin_dropped, same_fields}
use Rattle.heap_class.proofs.first_classes.FirstClasses.field_count.Goals as goal

pub returns-clause-value : goal.returns-clause-value
returns-clause-value c = c.field_count.ensures.value ∙ ap length (sym (same_fields _ _ _ (taken_classes_rejoin_dropped _ _ _ c.self.view_is) _ c.requires))
