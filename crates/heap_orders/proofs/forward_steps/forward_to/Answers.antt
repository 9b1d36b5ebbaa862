use Rattle.std.proofs.Common.{◌∙◌, ℕ, refl, subst, sym}
use Rattle.std.specs.Prelude.{Result}
use Rattle.heap_class.specs.declared.Refusal.{Refusal}
use Rattle.session_text.specs.Replies.{reply_text}
use Rattle.question_words.specs.Moments.{refused_text}
use Rattle.heap_orders.specs.Deeds.{GoesOnBy}
use Rattle.heap_orders.proofs.forward_steps.forward_to.Goals as goal

pub returns-in-Ok : goal.returns-in-Ok
returns-in-Ok c =
    subst (λ (x : Result ℕ Refusal). GoesOnBy x c.args.machine.now c.args.redo.now (reply_text c.go_on.result) c.go_on.new.machine c.go_on.new.redo) (sym c.in-Ok.is ∙ c.steps_on.ensures.count) c.go_on.ensures

pub returns-in-Err : goal.returns-in-Err
returns-in-Err c =
    subst (λ (x : Result ℕ Refusal). GoesOnBy x c.args.machine.now c.args.redo.now (refused_text c.in-Err.refusal) c.args.machine.now c.args.redo.now) (sym c.in-Err.is ∙ c.steps_on.ensures.count) (refl, refl, refl)
