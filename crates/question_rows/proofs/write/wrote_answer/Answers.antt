use Rattle.std.proofs.Common.{subst, sym}
use Rattle.std.specs.Prelude.{ℕ, Option}
use Rattle.session_text.specs.Replies.{line_answer_text}
use Rattle.question_rows.specs.PastAnswers.{IsAnswerSeen}
use Rattle.question_rows.specs.Writes.{IsWroteText}
use Rattle.question_rows.proofs.write.wrote_answer.Goals as goal

pub returns-in-None : goal.returns-in-None
returns-in-None c = subst (λ (o : Option ℕ). IsAnswerSeen (IsWroteText c.args.id c.args.slot) o c.args.machine.now.trail (line_answer_text c.wrote_now.result)) (sym c.in-None.is) c.wrote_now.ensures

pub returns-in-Some : goal.returns-in-Some
returns-in-Some c = subst (λ (o : Option ℕ). IsAnswerSeen (IsWroteText c.args.id c.args.slot) o c.args.machine.now.trail (line_answer_text c.wrote_past.result)) (sym c.in-Some.is) c.wrote_past.ensures
