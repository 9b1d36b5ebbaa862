use Rattle.std.proofs.Common.{refl}
use Rattle.heap_class.proofs.ClassNumbers.{empty_table_is_numbered}
use Rattle.heap_class.proofs.Tables.{empty_table}
use Rattle.heap_class.proofs.class_table.Classes.new.Goals as goal

pub invariant_of-result : goal.invariant_of-result
invariant_of-result c = empty_table_is_numbered _ _ c.new.ensures.empty c.new-2.ensures.items (empty_table _ _ refl refl)
