use Rattle.std.proofs.Common.{[], ◌∷◌, arith, reverse, sym, ap, ◌∙◌}
use Rattle.std.proofs.lemmas.Bool.{cond-true, cond-false, le-ltb, lt-ltb}
use Rattle.std.proofs.lemmas.List.{reverse-append}
use Rattle.heap_region.proofs.slots.give_head.Goals as goal

pub returns-then-region-area_start-clause-pool : goal.returns-then-region-area_start-clause-pool
returns-then-region-area_start-clause-pool c = sym (cond-false _ _ _ (le-ltb c.args.region c.args.area_start (omega arith)))

pub returns-clause-pool : goal.returns-clause-pool
returns-clause-pool c =
    ap reverse c.push_reserved.ensures.items
    ∙ (reverse-append c.args.pool.now.items (c.args.region ∷ []) ∙ sym (cond-true _ _ _ (lt-ltb c.args.region c.args.area_start (omega arith))))
