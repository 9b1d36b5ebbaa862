use Rattle.std.proofs.Common.{◌<◌, ◌∙◌, ap, length, arith}
use Rattle.std.specs.Prelude.{nat_eq}
use Rattle.std.proofs.lemmas.List.{get_or_default}
use Rattle.id_table.proofs.Places.{at_place}
use Rattle.id_table.proofs.table.IdTable.is_at.Goals as goal

pub returns-then-i-len-clause-value : goal.returns-then-i-len-clause-value
returns-then-i-len-clause-value c =
    let ids = c.self.inside.ids in
    let within : c.args.i < length ids.items = omega (arith, c.if-i-len.true, c.len.ensures, ids.ok) in
    rw (← c.self.view_is) (ap (λ x. nat_eq x c.args.id) (c.index.ensures ∙ get_or_default ids.items c.args.i c.index.result.now 0 within) ∙ at_place ids.items c.args.i c.args.id c.self.invariant.once within)
