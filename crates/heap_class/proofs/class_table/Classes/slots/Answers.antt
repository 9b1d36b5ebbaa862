use Rattle.std.proofs.Common.{sym, ◌∙◌}
use Rattle.heap_class.proofs.Readers.{slots_at}
use Rattle.heap_class.proofs.class_table.Classes.slots.Goals as goal

pub returns-clause-value : goal.returns-clause-value
returns-clause-value c = c.as_slice.ensures.value ∙ sym (slots_at _ _ c.self.invariant.table _ c.self.view_is c.args.class c.index.result.now c.requires c.index.ensures)
