use Rattle.std.proofs.Common.{refl, subst}
use Rattle.std.specs.Prelude.{ℕ, Result}
use Rattle.heap_class.specs.declared.Refusal.{Refusal}
use Rattle.heap_trail.specs.Trail.{Trail}
use Rattle.question_words.specs.Moments.{refused_text, told_text}
use Rattle.question_rows.specs.PastAnswers.{IsAnswerAgo}
use Rattle.question_words.specs.Places.{IsTextOrNoMemory}
use Rattle.question_rows.specs.SlotChanges.{IsWatchText}
use Rattle.question_rows.proofs.slot_changes.watch_ago.Goals as goal

pub returns-in-Ok : goal.returns-in-Ok
returns-in-Ok c =
    let text = told_text c.watch_past.result in
    subst (λ (x : Result ℕ Refusal). IsAnswerAgo (λ u. IsTextOrNoMemory (IsWatchText c.args.id c.args.slot u)) c.args.machine.now.trail x text) c.in-Ok.ensures.steps
    (subst (λ (u : Trail). IsTextOrNoMemory (IsWatchText c.args.id c.args.slot u) text) c.new.ensures c.watch_past.ensures)

pub returns-in-Err : goal.returns-in-Err
returns-in-Err c =
    subst (λ (x : Result ℕ Refusal). IsAnswerAgo (λ u. IsTextOrNoMemory (IsWatchText c.args.id c.args.slot u)) c.args.machine.now.trail x (refused_text c.in-Err.refusal)) c.in-Err.ensures.steps refl
