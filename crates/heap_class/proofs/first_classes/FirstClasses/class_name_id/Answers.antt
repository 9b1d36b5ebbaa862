use Rattle.std.proofs.Common.{sym, ◌∙◌}
use Rattle.heap_class.proofs.Front.{taken_classes_rejoin_dropped, same_class_id}
use Rattle.heap_class.proofs.first_classes.FirstClasses.class_name_id.Goals as goal

pub returns : goal.returns
returns c = c.class_name_id.ensures ∙ sym (same_class_id _ _ _ (taken_classes_rejoin_dropped _ _ _ c.self.view_is) _ c.requires)
