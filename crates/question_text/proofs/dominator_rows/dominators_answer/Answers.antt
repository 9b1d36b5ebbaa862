use Rattle.heap_dominators.specs.Upward.{IsTop}
use Rattle.question_text.proofs.TopRows.{all_tops_there}
use Rattle.question_text.proofs.dominator_rows.dominators_answer.Goals as goal

pub top_lines-requires : goal.top_lines-requires
top_lines-requires g c =
    let image = g.V.View.image c.args.view.now in
    rw (c.as_slice.ensures.value, c.classes-classes.ensures.value)
    (all_tops_there (g.V.View.ids c.args.view.now) image (IsTop image) c.args.most c.in_ok-tops.tops.items c.classes-classes.ensures.limits c.in_ok-tops.ensures.answer)
