use Rattle.std.proofs.Common.{◌∙◌, arith, drop}
use Rattle.heap_class.proofs.Front.{taken_classes_rejoin_dropped, fewer_names, same_name}
use Rattle.heap_class.proofs.first_classes.FirstClasses.name_at.Goals as goal

pub name_at-requires : goal.name_at-requires
name_at-requires c = omega (arith, c.requires, fewer_names c.self.inside.classes.now c.args.self.now (drop c.self.inside.count c.self.inside.classes.now) (taken_classes_rejoin_dropped _ _ _ c.self.view_is))

pub returns-clause-value : goal.returns-clause-value
returns-clause-value c = same_name _ _ _ (taken_classes_rejoin_dropped _ _ _ c.self.view_is) _ c.requires ∙ c.name_at.ensures.value
