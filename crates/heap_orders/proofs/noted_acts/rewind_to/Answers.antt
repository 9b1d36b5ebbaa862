use Rattle.std.proofs.Common.{◌∙◌, ℕ, refl, subst, sym}
use Rattle.std.specs.Prelude.{Result}
use Rattle.heap_class.specs.declared.Refusal.{Refusal}
use Rattle.session_text.specs.Replies.{reply_text}
use Rattle.question_words.specs.Moments.{refused_text}
use Rattle.heap_orders.specs.Deeds.{RewindsBy}
use Rattle.heap_orders.proofs.noted_acts.rewind_to.Goals as goal

pub returns-in-Ok : goal.returns-in-Ok
returns-in-Ok c =
    subst (λ (x : Result ℕ Refusal). RewindsBy x c.args.machine.now c.args.redo.now (reply_text c.act_and_note.result) c.act_and_note.new.machine c.act_and_note.new.redo) (sym c.in-Ok.is ∙ c.steps_ago.ensures.steps)
    (c.act_and_note.result, c.act_and_note.ensures.acts, refl, c.act_and_note.ensures.noted)

pub returns-in-Err : goal.returns-in-Err
returns-in-Err c =
    subst (λ (x : Result ℕ Refusal). RewindsBy x c.args.machine.now c.args.redo.now (refused_text c.in-Err.refusal) c.args.machine.now c.args.redo.now) (sym c.in-Err.is ∙ c.steps_ago.ensures.steps)
    (refl, refl, refl)
