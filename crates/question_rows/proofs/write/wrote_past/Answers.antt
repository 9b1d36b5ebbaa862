use Rattle.std.proofs.Common.{subst}
use Rattle.std.specs.Prelude.{ℕ, Result}
use Rattle.heap_class.specs.declared.Refusal.{Refusal}
use Rattle.heap_trail.specs.Trail.{Trail}
use Rattle.session_text.specs.Replies.{line_answer_text}
use Rattle.question_rows.specs.PastAnswers.{IsAnswerAgo}
use Rattle.question_words.specs.Places.{IsTextOrNoMemory}
use Rattle.question_rows.specs.Writes.{IsWroteText}
use Rattle.question_rows.proofs.write.wrote_past.Goals as goal

pub returns-in-Ok : goal.returns-in-Ok
returns-in-Ok c =
    let text = line_answer_text c.wrote_line.result in
    subst (λ (x : Result ℕ Refusal). IsAnswerAgo (λ u. IsTextOrNoMemory (IsWroteText c.args.id c.args.slot u)) c.args.machine.now.trail x text) c.in-Ok.ensures.steps
    (subst (λ (u : Trail). IsTextOrNoMemory (IsWroteText c.args.id c.args.slot u) text) c.new.ensures c.wrote_line.ensures)

pub returns-in-Err : goal.returns-in-Err
returns-in-Err c =
    subst (λ (x : Result ℕ Refusal). IsAnswerAgo (λ u. IsTextOrNoMemory (IsWroteText c.args.id c.args.slot u)) c.args.machine.now.trail x (line_answer_text c.reason_line.result)) c.in-Err.ensures.steps c.reason_line.ensures
