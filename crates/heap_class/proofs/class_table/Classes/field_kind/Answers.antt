use Rattle.std.proofs.Common.{◌≡◌, refl, sym, subst, arith}
use Rattle.std.specs.Prelude.{IfSome}
use Rattle.heap_class.proofs.Readers.{as_many, fields_there, field_there, field_at}
use Rattle.heap_class.proofs.class_table.Classes.field_kind.Goals as goal

pub index-requires : goal.index-requires
index-requires c = omega (arith, as_many _ _ c.self.invariant.table _ c.self.view_is, fields_there _ _ _ c.requires)

pub index-requires-2 : goal.index-requires-2
index-requires-2 c = omega (arith, field_there _ _ c.self.invariant.table _ c.self.view_is c.args.class c.index.result.now (fields_there _ _ _ c.requires) c.index.ensures c.args.field c.requires)

pub returns : goal.returns
returns c =
    let at = field_at _ _ c.self.invariant.table _ c.self.view_is c.args.class c.index.result.now (fields_there _ _ _ c.requires) c.index.ensures c.args.field c.index-2.result.now c.requires c.index-2.ensures in
    subst (λ o. IfSome o (λ f. c.index-2.result.now.kind ≡ f.kind)) (sym at) refl
