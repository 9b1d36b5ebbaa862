use Rattle.std.proofs.Common.{◌∙◌, List, subst, sym}
use Rattle.heap_class.specs.Classes.{Class}
use Rattle.question_words.specs.Names.{IsClassThere}
use Rattle.question_rows.proofs.NamedObjects.{class_there}
use Rattle.question_rows.proofs.show.show_answer.Goals as goal

pub object_lines-requires : goal.object_lines-requires
object_lines-requires g c =
    let image = g.V.View.image c.args.view.now in
    subst (λ (cs : List Class). IsClassThere cs c.in-Some.object.kind) (sym c.classes-classes.ensures.value)
    (class_there image c.args.id c.in-Some.object c.classes-classes.ensures.limits (sym c.object_with.ensures ∙ c.in-Some.is))
