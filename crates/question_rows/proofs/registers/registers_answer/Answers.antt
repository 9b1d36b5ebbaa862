use Rattle.std.proofs.Common.{◌≡◌, ◌∙◌, map}
use Rattle.heap_questions.specs.Registers.{object_named}
use Rattle.question_rows.proofs.NamedObjects.{all_there}
use Rattle.question_rows.proofs.registers.registers_answer.Goals as goal

pub push_lines-requires : goal.push_lines-requires
push_lines-requires g c =
    let image = g.V.View.image c.args.view.now in
    let e : c.as_slice.result.now ≡ map (object_named image) image.registers = c.as_slice.ensures.value ∙ c.in_ok-all.ensures.named in
    rw (e, c.classes-classes.ensures.value) (all_there image c.classes-classes.ensures.limits)
