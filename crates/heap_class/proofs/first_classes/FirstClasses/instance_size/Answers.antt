use Rattle.std.proofs.Common.{sym, ◌∙◌}
use Rattle.heap_class.proofs.Front.{taken_classes_rejoin_dropped, same_size}
use Rattle.heap_class.proofs.first_classes.FirstClasses.instance_size.Goals as goal

pub returns : goal.returns
returns c = c.instance_size.ensures ∙ sym (same_size _ _ _ (taken_classes_rejoin_dropped _ _ _ c.self.view_is) _ c.requires c.args.ids)
