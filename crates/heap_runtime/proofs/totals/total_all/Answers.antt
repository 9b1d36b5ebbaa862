use Rattle.std.proofs.Common.{◌∙◌, ap, length, count_by}
use Rattle.heap_runtime.specs.Totals.{claim_count, finished_count, is_finishing, is_making, made_count}
use Rattle.heap_runtime.proofs.CappedSums.{capped_sum_one_actor_further}
use Rattle.heap_runtime.proofs.totals.total_all.Goals as goal

pub loop-actor-preserved : goal.loop-actor-preserved
loop-actor-preserved g c =
    let xs = c.args.actors.now in
    let i = c.loop-actor.actor-index in
    let was = c.loop-actor.invariant in
    let a = c.actor-item.result in
    let below = c.loop-actor-test.true in
    let at = c.actor-item.is in
    let own = c.claims-own.ensures in
    record {
      claims = capped_sum_one_actor_further claim_count xs i a (length c.claims-own.result.now) c.loop-actor.claims _ below at (ap length own) was.claims c.saturating_add-claims.ensures;
      made = capped_sum_one_actor_further made_count xs i a c.count_made.result c.loop-actor.made _ below at (c.count_made.ensures ∙ ap (count_by is_making) own) was.made c.saturating_add-made.ensures;
      finished = capped_sum_one_actor_further finished_count xs i a c.count_finished.result c.loop-actor.finished _ below at (c.count_finished.ensures ∙ ap (count_by is_finishing) own) was.finished c.saturating_add-finished.ensures;
    }
