use Rattle.std.proofs.Common.{◌∙◌, ◌+◌, ◌≤◌, ◌<◌, ap, sym, subst, refl, drop, length, arith}
use Rattle.std.proofs.lemmas.List.{length-drop}
use Rattle.session_grammar.specs.Lines.{IsLineAt}
use Rattle.session_text.specs.declared.answer.Flow.TheVariants.{Next, Quit, Fault}
use Rattle.session_text.specs.Answers.{AnswersCommand, Begins}
use Rattle.session_text.specs.Limits.{longest_line}
use Rattle.session_text.specs.Talks.{IsLong, IsQuit}
use Rattle.session_text.proofs.QuickLines.{flow_read}
use Rattle.session_text.proofs.AnsweredLines.{line_answered, line_quits, line_cut, line_at_over_longest_is_long, unended_rest_over_longest_is_long}
use Rattle.session_text.proofs.answer.answer_first.Goals as goal

pub returns-then-as_slice-most : goal.returns-then-as_slice-most
returns-then-as_slice-most g c =
    let same = c.line_end.ensures.same in
    let limits = c.args.context.limits in
    let more : longest_line limits < length c.args.session.now.buffer = omega (arith, c.if-as_slice-most.true, c.longest_line-most.ensures.value, ap (λ l. length l) c.as_slice.ensures, ap (λ l. length l) same) in
    let long = unended_rest_over_longest_is_long limits c.args.session.now.buffer more c.in_default.ensures.found in
    (same, subst (λ l. IsLong limits l) (sym same) long, refl, refl, refl)

pub returns-then-n-most : goal.returns-then-n-most
returns-then-n-most g c =
    let same = c.line_end.ensures.same in
    let limits = c.args.context.limits in
    let long = line_at_over_longest_is_long limits c.args.session.now.buffer c.in-Some.n (omega (arith, c.if-n-most.true, c.longest_line-most.ensures.value)) c.in-Some.ensures.found in
    (same, subst (λ l. IsLong limits l) (sym same) long, refl, refl, refl)

pub returns : goal.returns
returns g c =
    let acts = g.C.Commands.acts in
    let unknown = g.C.Commands.unknown in
    let time = c.args.context.time in
    let same = c.line_end.ensures.same in
    let bytes = c.args.session.now.buffer in
    let n = c.in-Some.n in
    let at = c.in-Some.ensures.found in
    let e = flow_read acts unknown time _ c.without_cr-line.result.now c.args.commands.now c.args.session.now.page (g.O.Outlet.seen c.args.writer.now) c.answer_text.new.commands c.answer_text.new.page (g.O.Outlet.seen c.answer_text.new.writer) Next c.without_cr-line.ensures c.in-Next.ensures in
    let limits = c.args.context.limits in
    let most : n ≤ longest_line limits = omega (arith, c.if-n-most.false, c.longest_line-most.ensures.value) in
    let rest = c.pass.ensures ∙ ap (λ l. drop (n + 1) l) same in
    let less : length c.pass.new.self < length bytes = omega (arith, ap (λ l. length l) rest, length-drop (n + 1) bytes, at.0) in (
      less,
      e.0,
      line_answered limits (AnswersCommand acts unknown time) bytes c.as_slice-2.result.now c.pass.new.self n c.args.commands.now e.0 c.answer_text.new.commands (c.as_slice-2.ensures ∙ same) rest most at e.1,
      e.2,
    )

pub returns-in-Quit : goal.returns-in-Quit
returns-in-Quit g c =
    let same = c.line_end.ensures.same in
    let bytes = c.args.session.now.buffer in
    let n = c.in-Some.n in
    let e = flow_read g.C.Commands.acts g.C.Commands.unknown c.args.context.time _ c.without_cr-line.result.now c.args.commands.now c.args.session.now.page (g.O.Outlet.seen c.args.writer.now) c.answer_text.new.commands c.answer_text.new.page (g.O.Outlet.seen c.answer_text.new.writer) Quit c.without_cr-line.ensures c.in-Quit.ensures in
    let limits = c.args.context.limits in
    let quits = line_quits limits bytes c.as_slice-2.result.now n (c.as_slice-2.ensures ∙ same) (omega (arith, c.if-n-most.false, c.longest_line-most.ensures.value)) c.in-Some.ensures.found e.0 in
    (same, subst (λ l. IsQuit limits l) (sym same) quits, e.1, e.2, e.3)

pub returns-in-Fault : goal.returns-in-Fault
returns-in-Fault g c =
    let bytes = c.args.session.now.buffer in
    let n = c.in-Some.n in
    let begins = Begins g.C.Commands.acts g.C.Commands.unknown c.args.context.time in
    let e = flow_read g.C.Commands.acts g.C.Commands.unknown c.args.context.time _ c.without_cr-line.result.now c.args.commands.now c.args.session.now.page (g.O.Outlet.seen c.args.writer.now) c.answer_text.new.commands c.answer_text.new.page (g.O.Outlet.seen c.answer_text.new.writer) Fault c.without_cr-line.ensures c.in-Fault.ensures in
    let is = c.as_slice-2.ensures ∙ c.line_end.ensures.same in
    let at = subst (λ l. IsLineAt n l) (sym is) c.in-Some.ensures.found in
    let b = line_cut c.args.context.limits begins bytes c.as_slice-2.result.now n c.args.commands.now e.0 c.answer_text.new.commands is (omega (arith, c.if-n-most.false, c.longest_line-most.ensures.value)) at e.1 in
    (b.0, e.0, b.1, b.2, e.2)
