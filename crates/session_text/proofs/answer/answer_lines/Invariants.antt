use Rattle.std.proofs.Common.{ℕ, List, [], true, length}
use Rattle.session_text.specs.Answers.{AnswersCommand}
use Rattle.session_text.specs.Talks.{IsTalk}
use Rattle.session_text.specs.Writes.{IsTextAdded}
use Rattle.session_text.proofs.answer.answer_lines.Given as goal

abbrev pub invariant-loop-context : goal.invariant-loop-context
invariant-loop-context g l =
    (text : List ℕ) × IsTalk l.context.limits (AnswersCommand g.C.Commands.acts g.C.Commands.unknown l.context.time) l.initial.session.buffer l.initial.commands l.session.buffer text l.commands
    × IsTextAdded text [] (g.O.Outlet.seen l.initial.writer) l.session.page (g.O.Outlet.seen l.writer) true

abbrev pub decreases-loop-context : goal.decreases-loop-context
decreases-loop-context g l = length l.session.buffer
