use Rattle.std.proofs.Common.{List, subst}
use Rattle.std.specs.Prelude.{filter}
use Rattle.std.proofs.lemmas.Result.{IfOk-weaker}
use Rattle.heap_class.specs.Classes.{Class}
use Rattle.question_rows.specs.Histograms.{IsGarbageText, IsRowsText, sum_of}
use Rattle.question_rows.proofs.Totals.{as_count, image_is_countable, some_countable, some_rows_small, viewed_rows}
use Rattle.question_rows.proofs.histogram.garbage_text.Goals as goal

pub rows_text-requires-clause-classes : goal.rows_text-requires-clause-classes
rows_text-requires-clause-classes g c =
    let h = c.in_ok-histogram.ensures.rows in
    viewed_rows (g.V.View.ids c.args.view.now) (g.V.View.image c.args.view.now).classes _ (filter h.0 (g.V.View.image c.args.view.now).objects) c.in_ok-histogram.histogram h.2 c.classes-classes.ensures.value

pub rows_text-requires-clause-objects : goal.rows_text-requires-clause-objects
rows_text-requires-clause-objects g c =
    let h = c.in_ok-histogram.ensures.rows in
    (some_rows_small (g.V.View.ids c.args.view.now) (g.V.View.image c.args.view.now) h.0 c.in_ok-histogram.histogram c.classes-classes.ensures.limits h.2).0

pub rows_text-requires-clause-bytes : goal.rows_text-requires-clause-bytes
rows_text-requires-clause-bytes g c =
    let h = c.in_ok-histogram.ensures.rows in
    (some_rows_small (g.V.View.ids c.args.view.now) (g.V.View.image c.args.view.now) h.0 c.in_ok-histogram.histogram c.classes-classes.ensures.limits h.2).1

pub returns : goal.returns
returns g c =
    let v = c.args.view.now in
    let image = g.V.View.image v in
    let rows = c.in_ok-histogram.histogram in
    let h = c.in_ok-histogram.ensures.rows in (
      IfOk-weaker c.rows_text.result (λ text. IsRowsText c.classes-classes.result rows (sum_of rows) text.items)
          (λ text. IsGarbageText (g.V.View.ids v) image text.items)
          (λ text told. (
            h.0,
            h.1,
            as_count (g.V.View.ids v) image.classes (filter h.0 image.objects) rows text.items h.2
                (some_countable image.classes h.0 image.objects (image_is_countable image c.classes-classes.ensures.limits))
                (subst (λ (cs : List Class). IsRowsText cs rows (sum_of rows) text.items) c.classes-classes.ensures.value told),
          )) c.rows_text.ensures.0,
      c.rows_text.ensures.1,
    )
