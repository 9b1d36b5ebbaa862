use Rattle.std.proofs.Common.{sym, ◌∙◌}
use Rattle.heap_class.proofs.Readers.{name_at, within_at}
use Rattle.heap_class.proofs.class_table.Classes.name.Goals as goal

pub name_in-requires : goal.name_in-requires
name_in-requires c = (within_at _ _ c.self.invariant.table _ c.self.view_is c.args.class c.index.result.now c.requires c.index.ensures).own

pub returns-clause-value : goal.returns-clause-value
returns-clause-value c = c.name_in.ensures ∙ sym (name_at _ _ c.self.invariant.table _ c.self.view_is c.args.class c.index.result.now c.requires c.index.ensures)
