use Rattle.std.proofs.Common.{◌∙◌, List, ap, subst, sym}
use Rattle.std.specs.Prelude.{All}
use Rattle.heap_class.specs.Classes.{Class}
use Rattle.heap_world.specs.State.{HeapState}
use Rattle.question_rows.specs.Histories.{IsStepThere}
use Rattle.question_rows.proofs.ToldSteps.{steps_there}
use Rattle.question_rows.proofs.history.steps_text.Goals as goal

pub push_steps-requires : goal.push_steps-requires
push_steps-requires c =
    let t = c.args.machine.now.trail in
    let same = c.all-classes.ensures ∙ (c.classes.ensures ∙ ap (λ (w : HeapState). w.classes) c.world.ensures.value) in
    let all = steps_there c.args.machine.now.keep t c.args.ago c.args.count c.place-place.ensures.trail in
    subst (λ (cs : List Class). All (IsStepThere cs) c.as_slice.result.now) (sym same)
    (subst (All (IsStepThere t.current.classes)) (sym (c.as_slice.ensures.value ∙ c.in_ok-steps.ensures.steps)) all)
