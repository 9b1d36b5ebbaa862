use Rattle.std.proofs.Common.{sym}
use Rattle.heap_class.proofs.Readers.{sup_at, sup_below}
use Rattle.heap_class.proofs.class_table.Classes.sup.Goals as goal

pub returns-clause-value : goal.returns-clause-value
returns-clause-value c = sym (sup_at _ _ c.self.invariant.table _ c.self.view_is c.args.class c.index.result.now c.requires c.index.ensures)

pub returns-clause-before : goal.returns-clause-before
returns-clause-before c = sup_below _ _ c.self.invariant.table _ c.self.view_is c.args.class c.index.result.now c.requires c.index.ensures
