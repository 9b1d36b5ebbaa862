use Rattle.std.proofs.Common.{sym, ◌∙◌}
use Rattle.heap_class.proofs.Front.{taken_classes_rejoin_dropped, same_slots}
use Rattle.heap_class.proofs.first_classes.FirstClasses.slots.Goals as goal

pub returns-clause-value : goal.returns-clause-value
returns-clause-value c = c.slots.ensures.value ∙ sym (same_slots _ _ _ (taken_classes_rejoin_dropped _ _ _ c.self.view_is) _ c.requires)
