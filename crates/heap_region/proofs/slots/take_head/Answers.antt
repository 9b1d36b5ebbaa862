use Rattle.std.proofs.Common.{◌≡◌, arith, drop, reverse, sym, ◌∙◌}
use Rattle.std.proofs.lemmas.Bool.{cond-true, cond-false, le-ltb, lt-ltb}
use Rattle.heap_class.proofs.Lists.{head_and_rest_make_list}
use Rattle.heap_region.specs.Layout.{Heads}
use Rattle.heap_region.proofs.Tables.{heads_long, pool_after_pop}
use Rattle.heap_region.proofs.slots.take_head.Goals as goal

pub returns-then-region-area_start-clause-pool : goal.returns-then-region-area_start-clause-pool
returns-then-region-area_start-clause-pool c = sym (cond-false _ _ _ (le-ltb c.args.region c.args.area_start (omega arith)))

pub returns-clause-pool : goal.returns-clause-pool
returns-clause-pool c =
    let heads : Heads c.args.region (reverse c.args.pool.now.items) = sym (head_and_rest_make_list _ _ (c.requires (omega arith))) in
    let pool : drop 1 (reverse c.args.pool.now.items) ≡ reverse c.pop.new.self.items = pool_after_pop c.args.pool.now.items _ _ c.args.region c.pop.ensures.items heads (c.pop.ensures.variant.1 (omega (arith, heads_long c.args.pool.now.items c.args.region heads, c.args.pool.now.ok.0))) in
    sym pool ∙ sym (cond-true _ _ _ (lt-ltb c.args.region c.args.area_start (omega arith)))
