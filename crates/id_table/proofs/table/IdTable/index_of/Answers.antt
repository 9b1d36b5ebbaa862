use Rattle.std.proofs.Common.{ap, length, arith}
use Rattle.std.specs.Prelude.{nat_eq}
use Rattle.std.proofs.lemmas.List.Quantifiers.{position-Some}
use Rattle.id_table.specs.Tables.{Ids}
use Rattle.id_table.proofs.table.IdTable.index_of.Goals as goal

pub returns-in-Found-clause-within : goal.returns-in-Found-clause-within
returns-in-Found-clause-within c =
    let found = position-Some (nat_eq c.args.id) c.deref-2.result.now c.in-Found.i 0 c.in-Found.ensures in
    omega (arith, found.0, ap length c.deref-2.ensures.value, ap (λ (t : Ids). length t.keys) c.self.view_is)
