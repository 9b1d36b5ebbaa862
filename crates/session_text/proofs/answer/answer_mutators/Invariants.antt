use Rattle.std.proofs.Common.{◌≤◌, ◌-◌, ℕ, drop, length}
use Rattle.session_text.specs.Answers.{AnswersCommand}
use Rattle.session_text.specs.declared.limits.SessionLimits.{SessionLimits}
use Rattle.session_text.specs.Talks.{AreFirstAnswered}
use Rattle.session_text.proofs.answer.answer_mutators.Given as goal

abbrev pub invariant-loop-n : goal.invariant-loop-n
invariant-loop-n g l =
    (l.passed ≤ length l.text)
    × ((limits : SessionLimits) (time : ℕ) → AreFirstAnswered limits (AnswersCommand g.C.Commands.acts g.C.Commands.unknown time) l.text l.initial.commands l.initial.page (g.O.Outlet.seen l.initial.writer) (drop l.passed l.text) l.commands l.page (g.O.Outlet.seen l.writer))

abbrev pub decreases-loop-n : goal.decreases-loop-n
decreases-loop-n g l = length l.text - l.passed
