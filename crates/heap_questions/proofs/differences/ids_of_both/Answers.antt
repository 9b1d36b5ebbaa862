use Rattle.std.proofs.Common.{◌∙◌, ◌++◌, List, ℕ, ap, eqb}
use Rattle.std.proofs.lemmas.List.Filters.{dedup_is}
use Rattle.heap_questions.proofs.DifferentObjects.{ids_of, sorted_ids_are_of_both}
use Rattle.heap_questions.proofs.differences.ids_of_both.Goals as goal

pub returns : goal.returns
returns g c =
    let older = c.args.before.now in
    let newer = c.args.after.now in
    let sorted = c.sort.new.self.items in
    let listed = c.in_ok-add_ids-2.ensures ∙ ap (λ (xs : List ℕ). xs ++ ids_of newer.objects) (c.in_ok-add_ids.ensures ∙ ap (λ (xs : List ℕ). xs ++ ids_of older.objects) c.new-ids.ensures.items) in
    sorted_ids_are_of_both older newer c.add_ids-2.new.ids.items sorted c.dedup.new.self.items listed c.sort.ensures.permutation c.in_ok-sort.ensures.sorted (dedup_is eqb _ _ c.dedup.ensures.filtered)
