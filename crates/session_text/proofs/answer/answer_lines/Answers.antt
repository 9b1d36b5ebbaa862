use Rattle.std.proofs.Common.{◌≡◌, ◌∙◌, [], Option, None, Some, ap, arith, length, length-append, subst}
use Rattle.session_text.specs.declared.answer.Flow.{Flow}
use Rattle.session_text.specs.declared.answer.Flow.TheVariants.{Next, Quit, Long, Fault}
use Rattle.session_text.specs.Answers.{AnswersCommand, Begins}
use Rattle.session_text.specs.Talks.{IsFirst, stream}
use Rattle.session_text.proofs.AnsweredLines.{IsSoFarThen, no_lines_make_a_talk, answered_so_far_with_more, so_far_then, so_far_cut}
use Rattle.session_text.proofs.PageTexts.{text_added_to_page_alone}
use Rattle.session_text.proofs.answer.answer_lines.Given.{Over}
use Rattle.session_text.proofs.answer.answer_lines.Goals.{After-answer_first}
use Rattle.session_text.proofs.answer.answer_lines.Goals as goal

-- what came of the lines so far and of the first of the rest
first_line_came : (g : Over) (c : After-answer_first g) (flow : Option Flow) → c.answer_first.result ≡ flow → IsSoFarThen c.args.context.limits (AnswersCommand g.C.Commands.acts g.C.Commands.unknown c.args.context.time) (Begins g.C.Commands.acts g.C.Commands.unknown c.args.context.time) c.args.session.now.buffer c.args.commands.now (g.O.Outlet.seen c.args.writer.now) c.answer_first.new.session.buffer c.answer_first.new.commands c.answer_first.new.session.page (g.O.Outlet.seen c.answer_first.new.writer) flow
first_line_came g c flow is =
    let says = AnswersCommand g.C.Commands.acts g.C.Commands.unknown c.args.context.time in
    let begins = Begins g.C.Commands.acts g.C.Commands.unknown c.args.context.time in
    let m = c.answer_mutators in
    let w0 = g.O.Outlet.seen c.args.writer.now in
    let w1 = g.O.Outlet.seen c.loop-context.writer in
    let w2 = g.O.Outlet.seen m.new.writer in
    let w3 = g.O.Outlet.seen c.answer_first.new.writer in
    let k = answered_so_far_with_more c.args.context.limits says c.args.session.now.buffer c.args.commands.now w0 c.loop-context.session.buffer c.loop-context.commands c.loop-context.session.page w1 m.new.session.buffer m.new.commands m.new.session.page w2 c.loop-context.invariant (m.ensures.answered c.if-not-answer_mutators.false c.args.context.limits c.args.context.time) in
    let h = subst (λ (o : Option Flow). IsFirst c.args.context.limits says begins m.new.session.buffer m.new.commands m.new.session.page w2 c.answer_first.new.session.buffer c.answer_first.new.commands c.answer_first.new.session.page w3 o) is c.answer_first.ensures in
    so_far_then c.args.context.limits says begins c.args.session.now.buffer c.args.commands.now w0 m.new.session.buffer m.new.commands m.new.session.page w2 c.answer_first.new.session.buffer c.answer_first.new.commands c.answer_first.new.session.page w3 flow k h

pub loop-context-init : goal.loop-context-init
loop-context-init g c =
    ([], no_lines_make_a_talk c.args.context.limits (AnswersCommand g.C.Commands.acts g.C.Commands.unknown c.args.context.time) c.args.session.now.buffer c.args.commands.now, text_added_to_page_alone [] [] (g.O.Outlet.seen c.args.writer.now) c.args.session.now.page c.requires)

pub returns-then-not-answer_mutators : goal.returns-then-not-answer_mutators
returns-then-not-answer_mutators g c =
    let says = AnswersCommand g.C.Commands.acts g.C.Commands.unknown c.args.context.time in
    let begins = Begins g.C.Commands.acts g.C.Commands.unknown c.args.context.time in
    let m = c.answer_mutators in
    let w0 = g.O.Outlet.seen c.args.writer.now in
    let w1 = g.O.Outlet.seen c.loop-context.writer in
    let w2 = g.O.Outlet.seen m.new.writer in
    so_far_cut c.args.context.limits says begins c.args.session.now.buffer c.args.commands.now w0 c.loop-context.session.buffer c.loop-context.commands c.loop-context.session.page w1 m.new.session.buffer m.new.commands m.new.session.page w2 c.loop-context.invariant (m.ensures.cut c.if-not-answer_mutators.true c.args.context.limits c.args.context.time)

pub loop-context-preserved : goal.loop-context-preserved
loop-context-preserved g c = first_line_came g (goal.at.loop-context-preserved g c).After-answer_first (Some Next) (c.in-Some-Next.is ∙ ap Some c.in-Some-Next.field-0-is)

pub returns-in-None : goal.returns-in-None
returns-in-None g c = first_line_came g (goal.at.returns-in-None g c).After-answer_first None c.in-None.is

pub returns-in-Some-Quit : goal.returns-in-Some-Quit
returns-in-Some-Quit g c = first_line_came g (goal.at.returns-in-Some-Quit g c).After-answer_first (Some Quit) (c.in-Some-Quit.is ∙ ap Some c.in-Some-Quit.field-0-is)

pub returns-in-Some-Long : goal.returns-in-Some-Long
returns-in-Some-Long g c = first_line_came g (goal.at.returns-in-Some-Long g c).After-answer_first (Some Long) (c.in-Some-Long.is ∙ ap Some c.in-Some-Long.field-0-is)

pub returns-in-Some-Fault : goal.returns-in-Some-Fault
returns-in-Some-Fault g c = first_line_came g (goal.at.returns-in-Some-Fault g c).After-answer_first (Some Fault) (c.in-Some-Fault.is ∙ ap Some c.in-Some-Fault.field-0-is)

pub loop-context-smaller : goal.loop-context-smaller
loop-context-smaller g c =
    let says = AnswersCommand g.C.Commands.acts g.C.Commands.unknown c.args.context.time in
    let begins = Begins g.C.Commands.acts g.C.Commands.unknown c.args.context.time in
    let m = c.answer_mutators in
    let h = subst (λ (o : Flow). IsFirst c.args.context.limits says begins m.new.session.buffer m.new.commands m.new.session.page (g.O.Outlet.seen m.new.writer) c.answer_first.new.session.buffer c.answer_first.new.commands c.answer_first.new.session.page (g.O.Outlet.seen c.answer_first.new.writer) (Some o)) c.in-Some-Next.field-0-is c.in-Some-Next.ensures in
    let a = (m.ensures.answered c.if-not-answer_mutators.false c.args.context.limits c.args.context.time).1 in
    omega (arith, h.0, ap length a.are, length-append (stream a.lines) m.new.session.buffer)
