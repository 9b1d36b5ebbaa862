use Rattle.std.proofs.Common.{List, subst}
use Rattle.std.proofs.lemmas.Result.{IfOk-weaker}
use Rattle.heap_class.specs.Classes.{Class}
use Rattle.question_rows.specs.Histograms.{IsHistogramText, IsRowsText, sum_of}
use Rattle.question_rows.proofs.Totals.{all_rows_small, as_count, image_is_countable, viewed_rows}
use Rattle.question_rows.proofs.histogram.histogram_text.Goals as goal

pub rows_text-requires-clause-classes : goal.rows_text-requires-clause-classes
rows_text-requires-clause-classes g c =
    viewed_rows (g.V.View.ids c.args.view.now) (g.V.View.image c.args.view.now).classes _ (g.V.View.image c.args.view.now).objects c.in_ok-histogram.histogram c.in_ok-histogram.ensures.rows c.classes-classes.ensures.value

pub rows_text-requires-clause-objects : goal.rows_text-requires-clause-objects
rows_text-requires-clause-objects g c = (all_rows_small (g.V.View.ids c.args.view.now) (g.V.View.image c.args.view.now) c.in_ok-histogram.histogram c.classes-classes.ensures.limits c.in_ok-histogram.ensures.rows).0

pub rows_text-requires-clause-bytes : goal.rows_text-requires-clause-bytes
rows_text-requires-clause-bytes g c = (all_rows_small (g.V.View.ids c.args.view.now) (g.V.View.image c.args.view.now) c.in_ok-histogram.histogram c.classes-classes.ensures.limits c.in_ok-histogram.ensures.rows).1

pub returns : goal.returns
returns g c =
    let v = c.args.view.now in
    let image = g.V.View.image v in
    let rows = c.in_ok-histogram.histogram in (
      IfOk-weaker c.rows_text.result (λ text. IsRowsText c.classes-classes.result rows (sum_of rows) text.items)
          (λ text. IsHistogramText (g.V.View.ids v) image text.items)
          (λ text h. as_count (g.V.View.ids v) image.classes image.objects rows text.items c.in_ok-histogram.ensures.rows (image_is_countable image c.classes-classes.ensures.limits)
          (subst (λ (cs : List Class). IsRowsText cs rows (sum_of rows) text.items) c.classes-classes.ensures.value h)) c.rows_text.ensures.0,
      c.rows_text.ensures.1,
    )
