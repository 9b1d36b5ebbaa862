use Rattle.std.proofs.Common.{◌≡◌, ◌≤◌, [], ◌-◌}
use Rattle.session_text.specs.Answers.{AnswersCommand}
use Rattle.session_text.specs.Limits.{most_reads}
use Rattle.session_text.proofs.AnsweredLines.{IsOpen, Came}
use Rattle.session_text.proofs.talk.talk.Given as goal

abbrev pub invariant-loop-session : goal.invariant-loop-session
invariant-loop-session g l =
    let s = l.initial in
    let says = AnswersCommand g.C.Commands.acts g.C.Commands.unknown l.context.time in
    (l.session.page ≡ [])
    × IsOpen l.context.limits says (g.I.Inlet.seen s.reader) s.commands (g.O.Outlet.seen s.writer) (g.I.Inlet.seen l.reader) l.session.buffer l.commands (g.O.Outlet.seen l.writer) l.reads
    × Came l.context.limits says (g.I.Inlet.seen s.reader) s.commands (g.O.Outlet.seen s.writer) (g.I.Inlet.seen l.reader) l.session.buffer l.commands (g.O.Outlet.seen l.writer) l.reads
    × (l.most ≡ most_reads l.context.limits) × (l.reads ≤ l.most)

abbrev pub decreases-loop-session : goal.decreases-loop-session
decreases-loop-session g l = l.most - l.reads
