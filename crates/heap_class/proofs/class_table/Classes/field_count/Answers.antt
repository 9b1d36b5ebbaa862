use Rattle.std.proofs.Common.{ap, arith, length}
use Rattle.std.proofs.lemmas.List.{length-map}
use Rattle.indexmap.specs.IndexMap.{keys}
use Rattle.heap_class.specs.Entries.{field_of_entry}
use Rattle.heap_class.proofs.Readers.{fields_at}
use Rattle.heap_class.proofs.class_table.Classes.field_count.Goals as goal

pub returns-clause-value : goal.returns-clause-value
returns-clause-value c =
    omega (
      arith,
      c.len.ensures,
      ap length (fields_at _ _ c.self.invariant.table _ c.self.view_is c.args.class c.index.result.now c.requires c.index.ensures),
      length-map c.index.result.now.fields.items (field_of_entry (keys c.self.inside.names)),
    )
