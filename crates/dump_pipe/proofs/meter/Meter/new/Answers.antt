use Rattle.std.proofs.Common.{◌∙◌, arith}
use Rattle.dump_pipe.specs.declared.meter_side.MeterSide.TheVariants.{Out}
use Rattle.dump_pipe.proofs.MeterSteps.{fresh_side_splits_off_feeder, whole_side_opens_meter}
use Rattle.dump_pipe.proofs.meter.Meter.new.Goals as goal

pub split_seat-asker-requires : goal.split_seat-asker-requires
split_seat-asker-requires c =
    let t = c.in_ok-table.ensures in
    (t.2, omega (arith, t.0), whole_side_opens_meter _ _ t.4)

pub split_seat-feed-requires : goal.split_seat-feed-requires
split_seat-feed-requires c =
    let t = c.in_ok-table.ensures in
    let first = c.split_seat-asker.ensures.2 ∙ (λ k. (Out 0, (t.4 k).1)) in
    (c.in_ok-read.ensures.out.0 ∙ c.split_seat-asker.ensures.0 ∙ t.2, omega (arith, t.0), fresh_side_splits_off_feeder _ _ (c.in_ok-read.ensures.out.1 ∙ first))
