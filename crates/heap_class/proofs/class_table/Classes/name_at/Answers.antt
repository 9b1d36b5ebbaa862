use Rattle.std.proofs.Common.{ap, sym, ◌∙◌, ◌<◌, length, Some, arith, []}
use Rattle.std.specs.Prelude.{slice_get}
use Rattle.std.proofs.lemmas.Option.{slice_get-get_or}
use Rattle.indexmap.specs.IndexMap.{keys}
use Rattle.heap_class.specs.Classes.{name_table}
use Rattle.heap_class.proofs.Tables.{table_names}
use Rattle.heap_class.proofs.class_table.Classes.name_at.Goals as goal

pub name_in-requires : goal.name_in-requires
name_in-requires c = omega (arith, ap length (table_names _ _ c.self.invariant.table), ap (λ v. length (name_table v)) c.self.view_is, c.requires)

pub returns-clause-value : goal.returns-clause-value
returns-clause-value c =
    let within : c.args.index < length (keys c.self.inside.names) = omega (arith, ap length (table_names _ _ c.self.invariant.table), ap (λ v. length (name_table v)) c.self.view_is, c.requires) in
    ap (λ v. slice_get (name_table v) c.args.index) (sym c.self.view_is)
    ∙ ap (λ l. slice_get l c.args.index) (table_names _ _ c.self.invariant.table)
    ∙ slice_get-get_or (keys c.self.inside.names) c.args.index [] within
    ∙ ap Some (sym c.name_in.ensures)
