use Rattle.heap_class.proofs.Front.{taken_classes_rejoin_dropped, first_table}
use Rattle.heap_class.proofs.first_classes.FirstClasses.len.Goals as goal

pub returns-clause-table : goal.returns-clause-table
returns-clause-table c = first_table _ _ _ (taken_classes_rejoin_dropped _ _ _ c.self.view_is) c.len-all.ensures.table
