use Rattle.std.proofs.Common.{◌≡◌, ◌++◌, ◌∷◌, [], ◌∙◌, ap, sym, cond, List, Bool, ℕ, Option, Some, None, is_some}
use Rattle.std.specs.Prelude.{nat_eq, not, position}
use Rattle.std.specs.List.{list_any}
use Rattle.id_table.proofs.Places.{found_if_any}
use Rattle.id_table.proofs.probing.add.Goals as goal

-- whether an identifier is there, by the place that is found
there_by : (ids slice : List ℕ) (id : ℕ) (o : Option ℕ) → slice ≡ ids → position (nat_eq id) slice ≡ o → is_some o ≡ list_any (nat_eq id) ids
there_by ids slice id o same at = ap is_some (sym at) ∙ (found_if_any (nat_eq id) slice ∙ ap (list_any (nat_eq id)) same)

pub returns-in-Found-clause-keys : goal.returns-in-Found-clause-keys
returns-in-Found-clause-keys c =
    let ids = c.args.ids.now.items in
    ap (λ (b : Bool). cond b ids (ids ++ c.args.id ∷ [])) (there_by ids c.deref.result.now c.args.id (Some c.in-Found.field-0) c.deref.ensures.value c.in-Found.ensures)

pub returns-in-Found-clause-added : goal.returns-in-Found-clause-added
returns-in-Found-clause-added c =
    ap not (there_by c.args.ids.now.items c.deref.result.now c.args.id (Some c.in-Found.field-0) c.deref.ensures.value c.in-Found.ensures)

pub returns-in_ok-put-in-Empty-clause-keys : goal.returns-in_ok-put-in-Empty-clause-keys
returns-in_ok-put-in-Empty-clause-keys c =
    let ids = c.args.ids.now.items in
    c.in_ok-put-in-Empty.ensures.keys
    ∙ ap (λ (b : Bool). cond b ids (ids ++ c.args.id ∷ [])) (there_by ids c.deref.result.now c.args.id None c.deref.ensures.value c.in-Empty.ensures.0)

pub returns-in_ok-put-in-Empty-clause-added : goal.returns-in_ok-put-in-Empty-clause-added
returns-in_ok-put-in-Empty-clause-added c =
    ap not (there_by c.args.ids.now.items c.deref.result.now c.args.id None c.deref.ensures.value c.in-Empty.ensures.0)
