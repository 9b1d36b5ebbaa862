use Rattle.std.proofs.Common.{◌∙◌, ap, is_some}
use Rattle.std.specs.Prelude.{nat_eq}
use Rattle.id_table.proofs.Places.{found_if_any}
use Rattle.id_table.proofs.table.IdTable.contains.Goals as goal

pub returns : goal.returns
returns c = c.is_some.ensures ∙ (ap is_some c.index_of.ensures.place ∙ found_if_any (nat_eq c.args.id) c.args.self.now.keys)
