use Rattle.std.proofs.Common.{◌≡◌, ◌∙◌, ◌<◌, Bool, Option, ap, arith, false, length, sym}
use Rattle.std.specs.Prelude.{unwrap_or}
use Rattle.heap_world.specs.Pool.{RegionPool}
use Rattle.heap_mark.specs.MarkSteps.{pending_regions}
use Rattle.question_rows.proofs.UsedRegions.{none_waits, one_waits, waiting_all, waiting_none}
use Rattle.question_rows.proofs.status.unswept_count.Goals as goal
use Rattle.question_rows.proofs.status.unswept_count.Goals.{then-unwrap_or, else-unwrap_or}

pub loop-region-preserved : goal.loop-region-preserved
loop-region-preserved c =
    let rs = c.regions-regions.result.now.regions in
    let r = c.loop-region.region in
    let within : r < length rs = omega (arith, c.loop-region-test.true, c.count-region-end.ensures.value) in
    let told = c.unwrap_or.ensures ∙ ap (λ (x : Option Bool). unwrap_or x false) c.pending.ensures in
    elim c.if-unwrap_or.branch [
      | then-unwrap_or w ↦
          let more = one_waits rs r within (sym told ∙ w.if-unwrap_or.true) in
          record {
            counted = omega (arith, w.count-is, more, c.loop-region.invariant.counted);
            few = omega (arith, w.count-is, c.loop-region.invariant.few);
          }
      | else-unwrap_or w ↦
          let more = none_waits rs r within (sym told ∙ w.if-unwrap_or.false) in
          record {
            counted = omega (arith, w.count-is, more, c.loop-region.invariant.counted);
            few = omega (arith, w.count-is, c.loop-region.invariant.few);
          }
    ]

pub returns : goal.returns
returns c =
    let rs = c.regions-regions.result.now.regions in
    let none = waiting_none rs c.loop-region.region (omega (arith, c.loop-region-test.false, c.count-region-end.ensures.value)) in
    let all : length (pending_regions rs) ≡ length (pending_regions c.args.world.now.regions) = ap (λ (s : RegionPool). length (pending_regions s.regions)) c.regions-regions.ensures in
    omega (arith, none, c.loop-region.invariant.counted, waiting_all rs, all)
