use Rattle.std.proofs.Common.{◌∙◌, List, ap, length, subst, sym}
use Rattle.heap_class.specs.Classes.{Class}
use Rattle.hprof_text.specs.Image.{Image, IsDumpable, IsKnown}
use Rattle.heap_questions.specs.Graph.{object_with}
use Rattle.question_rows.proofs.TreeObjects.{object_known}
use Rattle.question_rows.proofs.tree.tree_answer.Goals as goal

pub tree_lines-requires-clause-limits : goal.tree_lines-requires-clause-limits
tree_lines-requires-clause-limits g c = subst IsDumpable (sym c.in_ok-index.ensures.index) c.classes-classes.ensures.limits

pub tree_lines-requires-clause-classes : goal.tree_lines-requires-clause-classes
tree_lines-requires-clause-classes g c = c.classes-classes.ensures.value ∙ sym (ap (λ (i : Image). i.classes) c.in_ok-index.ensures.index)

pub tree_lines-requires-clause-known : goal.tree_lines-requires-clause-known
tree_lines-requires-clause-known g c =
    let image = g.V.View.image c.args.view.now in
    let o = c.in-Some.object in
    subst (λ (cs : List Class). IsKnown cs o.kind (length o.words)) (sym c.classes-classes.ensures.value)
    (object_known image c.args.id o c.classes-classes.ensures.limits (ap (λ (i : Image). object_with i c.args.id) (sym c.in_ok-index.ensures.index) ∙ sym c.object_with.ensures ∙ c.in-Some.is))
