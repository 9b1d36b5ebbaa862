use Rattle.std.proofs.Common.{◌∙◌, sym, ap, arith}
use Rattle.heap_class.specs.Classes.{name_id}
use Rattle.heap_class.proofs.Tables.{few_names}
use Rattle.heap_class.proofs.Readers.{name_at, within_at, id_at}
use Rattle.heap_class.proofs.class_table.Classes.class_name_id.Goals as goal

pub overflow_add-result : goal.overflow_add-result
overflow_add-result c =
    omega (arith, few_names _ _ c.self.invariant.table, c.self.invariant.table.few, (within_at _ _ c.self.invariant.table _ c.self.view_is c.args.class c.index.result.now c.requires c.index.ensures).own)

pub returns : goal.returns
returns c =
    id_at _ _ c.self.invariant.table _ c.self.view_is c.index.result.now.name (within_at _ _ c.self.invariant.table _ c.self.view_is c.args.class c.index.result.now c.requires c.index.ensures).own
    ∙ ap (name_id c.args.self.now) (sym (name_at _ _ c.self.invariant.table _ c.self.view_is c.args.class c.index.result.now c.requires c.index.ensures))
