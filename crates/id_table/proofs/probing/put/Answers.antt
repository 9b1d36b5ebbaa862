use Rattle.std.proofs.Common.{◌≡◌, ◌+◌, ◌<◌, ◌^◌, ◌++◌, ◌∷◌, [], sym, subst, length, set, List, arith, ℕ}
use Rattle.id_table.specs.Tables.{IsIdTable}
use Rattle.id_table.proofs.Probes.{table_and_one}
use Rattle.id_table.proofs.probing.put.Goals as goal

pub offset_bounds-slots-at : goal.offset_bounds-slots-at
offset_bounds-slots-at c = omega (arith, c.requires.free.there, c.requires.table.size)

pub bounds-slots-at : goal.bounds-slots-at
bounds-slots-at c = c.requires.free.there

pub returns-clause-table : goal.returns-clause-table
returns-clause-table c =
    let ids = c.args.ids.now in
    let count : length ids.items ≡ c.len-count.result = omega (arith, c.len-count.ensures, ids.ok) in
    let few : length ids.items + 1 < 2 ^ 32 = omega (arith, count, c.if-count-ge-MOST.false) in
    let items : ids.items ++ c.args.id ∷ [] ≡ c.push.new.self.items = sym c.in_ok-push.ensures.items in
    subst (λ (xs : List ℕ). IsIdTable (set c.args.slots.now c.args.at (c.len-count.result + 1)) xs) items
    (subst (λ (n : ℕ). IsIdTable (set c.args.slots.now c.args.at (n + 1)) (ids.items ++ c.args.id ∷ [])) count
    (table_and_one c.args.slots.now ids.items c.args.id c.args.at c.requires.table c.requires.absent c.requires.free few))
