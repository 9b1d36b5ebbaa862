use Rattle.std.proofs.Common.{◌∙◌, ◌<◌, ◌++◌, ◌∷◌, [], List, Option, ap₂, arith, length, sym}
use Rattle.heap_questions.specs.declared.past.summaries.RegionSummary.{RegionSummary}
use Rattle.heap_questions.proofs.PastRegions.{one_region_more_told}
use Rattle.heap_questions.proofs.past.summaries.summaries_now.Goals as goal

pub loop-region-preserved : goal.loop-region-preserved
loop-region-preserved c =
    let regions = c.args.regions.now.regions in
    let r = c.loop-region.region in
    let within : r < length regions = omega (arith, c.loop-region-test.true, c.count-region-end.ensures.value) in
    c.in_ok-push.ensures.items
    ∙ ap₂ (λ (all : List (Option RegionSummary)) (one : Option RegionSummary). all ++ one ∷ []) c.loop-region.invariant c.summary_at.ensures
    ∙ sym (one_region_more_told regions r within)
