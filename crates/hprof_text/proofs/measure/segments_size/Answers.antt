use Rattle.std.proofs.Common.{length, map, sym, ap, ◌∙◌, arith}
use Rattle.hprof_text.specs.Text.{records_in, sub_records}
use Rattle.hprof_text.specs.SizeSums.{total_with}
use Rattle.hprof_text.proofs.AddedSizes.{nothing_measured_before_sizes, total_within_open_body_sum}
use Rattle.hprof_text.proofs.measure.segments_size.Goals as goal

pub loop-next-init : goal.loop-next-init
unfolding sub_records
loop-next-init g c =
    let ids = g.V.View.ids c.args.view.now in
    let image = g.V.View.image c.args.view.now in
    let none = c.new-measure.ensures.none in (
      ap (λ l. total_with c.new-measure.result (map length (records_in ids image l))) (sym c.first.ensures) ∙ nothing_measured_before_sizes c.new-measure.result (map length (sub_records ids image)) none.0 none.1,
      omega (arith, none.0, none.1, ap length c.first.ensures),
    )

pub returns-clause-limit : goal.returns-clause-limit
returns-clause-limit g c = omega (arith, c.total.ensures, total_within_open_body_sum c.loop-next.measure, c.loop-next.invariant.1)
