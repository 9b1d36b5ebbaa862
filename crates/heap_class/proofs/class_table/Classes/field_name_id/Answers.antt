use Rattle.std.proofs.Common.{◌≡◌, ◌+◌, sym, subst, arith}
use Rattle.std.specs.Prelude.{IfSome}
use Rattle.heap_class.specs.Classes.{name_id}
use Rattle.heap_class.proofs.Tables.{few_names}
use Rattle.heap_class.proofs.Readers.{as_many, fields_there, field_there, field_at, field_within, id_at}
use Rattle.heap_class.proofs.class_table.Classes.field_name_id.Goals as goal

pub index-requires : goal.index-requires
index-requires c = omega (arith, as_many _ _ c.self.invariant.table _ c.self.view_is, fields_there _ _ _ c.requires)

pub index-requires-2 : goal.index-requires-2
index-requires-2 c = omega (arith, field_there _ _ c.self.invariant.table _ c.self.view_is c.args.class c.index.result.now (fields_there _ _ _ c.requires) c.index.ensures c.args.field c.requires)

pub overflow_add-result : goal.overflow_add-result
overflow_add-result c =
    omega (
      arith,
      few_names _ _ c.self.invariant.table,
      c.self.invariant.table.few,
      field_within _ _ c.self.invariant.table _ c.self.view_is c.args.class c.index.result.now (fields_there _ _ _ c.requires) c.index.ensures c.args.field c.index-2.result.now c.requires c.index-2.ensures,
    )

pub returns : goal.returns
returns c =
    let at = field_at _ _ c.self.invariant.table _ c.self.view_is c.args.class c.index.result.now (fields_there _ _ _ c.requires) c.index.ensures c.args.field c.index-2.result.now c.requires c.index-2.ensures in
    let within = field_within _ _ c.self.invariant.table _ c.self.view_is c.args.class c.index.result.now (fields_there _ _ _ c.requires) c.index.ensures c.args.field c.index-2.result.now c.requires c.index-2.ensures in
    subst (λ o. IfSome o (λ f. c.index-2.result.now.name + 1 ≡ name_id c.args.self.now f.name)) (sym at) (id_at _ _ c.self.invariant.table _ c.self.view_is c.index-2.result.now.name within)
