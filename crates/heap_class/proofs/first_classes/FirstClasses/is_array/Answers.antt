use Rattle.std.proofs.Common.{sym, ◌∙◌}
use Rattle.heap_class.proofs.Front.{taken_classes_rejoin_dropped, same_array}
use Rattle.heap_class.proofs.first_classes.FirstClasses.is_array.Goals as goal

pub returns : goal.returns
returns c = c.is_array.ensures ∙ sym (same_array _ _ _ (taken_classes_rejoin_dropped _ _ _ c.self.view_is) _ c.requires)
