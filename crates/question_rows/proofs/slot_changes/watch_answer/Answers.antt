use Rattle.std.proofs.Common.{subst, sym}
use Rattle.std.specs.Prelude.{ℕ, Option}
use Rattle.question_words.specs.Moments.{told_text}
use Rattle.question_rows.specs.PastAnswers.{IsAnswerSeen}
use Rattle.question_rows.specs.SlotChanges.{IsWatchText}
use Rattle.question_rows.proofs.slot_changes.watch_answer.Goals as goal

pub returns-in-None : goal.returns-in-None
returns-in-None c = subst (λ (o : Option ℕ). IsAnswerSeen (IsWatchText c.args.id c.args.slot) o c.args.machine.now.trail (told_text c.watch_now.result)) (sym c.in-None.is) c.watch_now.ensures

pub returns-in-Some : goal.returns-in-Some
returns-in-Some c = subst (λ (o : Option ℕ). IsAnswerSeen (IsWatchText c.args.id c.args.slot) o c.args.machine.now.trail (told_text c.watch_ago.result)) (sym c.in-Some.is) c.watch_ago.ensures
