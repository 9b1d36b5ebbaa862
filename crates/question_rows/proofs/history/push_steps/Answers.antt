use Rattle.std.proofs.Common.{◌≡◌, ◌∙◌, ◌++◌, List, ap, arith, get_or, length, sym, take, ℕ}
use Rattle.std.specs.Prelude.{flat_map}
use Rattle.std.proofs.Math.Seq.{take-length}
use Rattle.std.proofs.lemmas.List.{flat_map_more, take_more}
use Rattle.heap_questions.specs.declared.past.events.PastEvent.TheVariants.{Put}
use Rattle.heap_questions.specs.declared.past.steps.PastStep.{PastStep}
use Rattle.question_rows.specs.Histories.{past_step_line}
use Rattle.question_rows.proofs.history.push_steps.Goals as goal

pub loop-step-preserved : goal.loop-step-preserved
loop-step-preserved c =
    let line : PastStep → List ℕ = past_step_line c.args.classes.now in
    let old = c.args.text.now.items in
    let steps = c.args.steps.now in
    let i = c.loop-step.step-index in
    let none : PastStep = record { place = 0; event = Put 0 0 0 0 } in
    let one : PastStep = get_or steps i none in
    c.in_ok-push_step.ensures
    ∙ ap (λ (t : List ℕ). t ++ line one) c.loop-step.invariant
    ∙ flat_map_more line old (take i steps) one
    ∙ ap (λ (xs : List PastStep). old ++ flat_map line xs) (sym (take_more steps i none c.loop-step-test.true))

pub returns : goal.returns
returns c =
    let line : PastStep → List ℕ = past_step_line c.args.classes.now in
    let old = c.args.text.now.items in
    let steps = c.args.steps.now in
    let end : c.loop-step.step-index ≡ length steps = omega (arith, c.loop-step.auto.step-index-end, c.loop-step-test.false) in
    c.loop-step.invariant
    ∙ ap (λ (i : ℕ). old ++ flat_map line (take i steps)) end
    ∙ ap (λ (xs : List PastStep). old ++ flat_map line xs) (take-length steps)
