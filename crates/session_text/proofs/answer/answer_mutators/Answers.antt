use Rattle.std.proofs.Common.{◌≡◌, ◌∙◌, ap, ◌+◌, ◌-◌, ◌++◌, [], true, false, take, drop, length, append-nil, sym, subst, arith}
use Rattle.std.proofs.lemmas.List.{length-drop}
use Rattle.std.proofs.Math.Seq.{drop-drop}
use Rattle.session_grammar.specs.Lines.{IsLineAt}
use Rattle.session_grammar.proofs.NameBytes.{slice_from_place_is_drop}
use Rattle.session_text.specs.Answers.{AnswersCommand, Begins}
use Rattle.session_text.specs.Mutators.{IsQuickIn}
use Rattle.session_text.specs.Talks.{AreFirstAnswered, IsFirstCut}
use Rattle.session_text.specs.declared.mutator.Quick.{Quick}
use Rattle.session_text.proofs.QuickLines.{quick_flow, no_quick_leaves_all}
use Rattle.session_text.proofs.AnsweredLines.{no_lines_make_a_talk, two_talks_in_turn, narrow_line_fits_every_limit, line_answered, line_cut, answered_left}
use Rattle.session_text.proofs.PageTexts.{text_added_to_page_alone, texts_added_in_turn}
use Rattle.session_text.proofs.answer.answer_mutators.Goals as goal

pub loop-n-init : goal.loop-n-init
loop-n-init g c =
    (omega arith, λ limits time. ([], no_lines_make_a_talk limits (AnswersCommand g.C.Commands.acts g.C.Commands.unknown time) c.as_slice-text.result.now c.args.commands.now, text_added_to_page_alone [] c.args.session.now.page (g.O.Outlet.seen c.args.writer.now) c.args.session.now.page (sym (append-nil c.args.session.now.page))))

pub loop-n-preserved : goal.loop-n-preserved
loop-n-preserved g c =
    let i = c.loop-n.invariant in
    let t = c.as_slice-text.result.now in
    let at = c.loop-n.passed in
    let n = c.answer_mutator.result.1 in
    let s = take (length t - at) (drop at t) in
    let rest : s ≡ drop at t = slice_from_place_is_drop t at in
    let h = subst (λ (q : Quick). IsQuickIn g.C.Commands.acts s c.loop-n.commands c.loop-n.page (g.O.Outlet.seen c.loop-n.writer) c.answer_mutator.new.commands c.answer_mutator.new.page (g.O.Outlet.seen c.answer_mutator.new.writer) (q, n)) c.in-Next-default.is-0 c.answer_mutator.ensures in
    let line : IsLineAt n (drop at t) = subst (λ l. IsLineAt n l) rest h.0.0 in (
      omega (arith, line.0, length-drop at t, i.0),
      λ limits time.
          let says = AnswersCommand g.C.Commands.acts g.C.Commands.unknown time in
          let w0 = g.O.Outlet.seen c.args.writer.now in
          let w1 = g.O.Outlet.seen c.loop-n.writer in
          let w2 = g.O.Outlet.seen c.answer_mutator.new.writer in
          let q = quick_flow g.C.Commands.acts g.C.Commands.unknown time s true n c.loop-n.commands c.loop-n.page w1 c.answer_mutator.new.commands c.answer_mutator.new.page w2 h in
          let e = q.1 in
          let a = i.1 limits time in
          let more = line_answered limits says (drop at t) s (drop (at + (n + 1)) t) n c.loop-n.commands e.0 c.answer_mutator.new.commands rest (sym (drop-drop (n + 1) at t)) (narrow_line_fits_every_limit limits n q.0.1) line e.1 in (
            a.0 ++ e.0,
            two_talks_in_turn limits says t c.args.commands.now (drop at t) a.0 c.loop-n.commands (drop (at + (n + 1)) t) e.0 c.answer_mutator.new.commands a.1 more,
            texts_added_in_turn a.0 e.0 c.args.session.now.page w0 c.loop-n.page w1 c.answer_mutator.new.page w2 true a.2 e.2,
          ),
    )

pub pass-requires : goal.pass-requires
pass-requires g c = omega (arith, c.loop-n.invariant.0, ap length c.as_slice-text.ensures)

pub returns-clause-answered : goal.returns-clause-answered
returns-clause-answered g c = λ _ limits time.
    let says = AnswersCommand g.C.Commands.acts g.C.Commands.unknown time in
    let t = c.as_slice-text.result.now in
    let at = c.loop-n.passed in
    let w0 = g.O.Outlet.seen c.args.writer.now in
    let w1 = g.O.Outlet.seen c.loop-n.writer in
    let m = c.answer_mutator.new in
    let w2 = g.O.Outlet.seen m.writer in
    let same = no_quick_leaves_all g.C.Commands.acts (take (length t - at) (drop at t)) c.answer_mutator.result.0 c.answer_mutator.result.1 c.loop-n.commands c.loop-n.page w1 m.commands m.page w2 c.in-No-default.is-0 c.answer_mutator.ensures in
    let h = answered_left limits says t c.args.commands.now c.args.session.now.page w0 (drop at t) c.loop-n.commands c.loop-n.page w1 m.commands m.page w2 same (c.loop-n.invariant.1 limits time) in
    let rest = c.pass.ensures ∙ ap (λ l. drop at l) (sym c.as_slice-text.ensures) in
    let k = subst (λ l. AreFirstAnswered limits says t c.args.commands.now c.args.session.now.page w0 l m.commands m.page w2) (sym rest) h in
    subst (λ l. AreFirstAnswered limits says l c.args.commands.now c.args.session.now.page w0 c.pass.new.self m.commands m.page w2) c.as_slice-text.ensures k

pub returns-in-Fault-default-clause-cut : goal.returns-in-Fault-default-clause-cut
returns-in-Fault-default-clause-cut g c = λ _ limits time.
    let t = c.as_slice-text.result.now in
    let at = c.loop-n.passed in
    let n = c.answer_mutator.result.1 in
    let s = take (length t - at) (drop at t) in
    let says = AnswersCommand g.C.Commands.acts g.C.Commands.unknown time in
    let begins = Begins g.C.Commands.acts g.C.Commands.unknown time in
    let w0 = g.O.Outlet.seen c.args.writer.now in
    let w1 = g.O.Outlet.seen c.loop-n.writer in
    let w2 = g.O.Outlet.seen c.answer_mutator.new.writer in
    let h = subst (λ (q : Quick). IsQuickIn g.C.Commands.acts s c.loop-n.commands c.loop-n.page w1 c.answer_mutator.new.commands c.answer_mutator.new.page w2 (q, n)) c.in-Fault-default.is-0 c.answer_mutator.ensures in
    let q = quick_flow g.C.Commands.acts g.C.Commands.unknown time s false n c.loop-n.commands c.loop-n.page w1 c.answer_mutator.new.commands c.answer_mutator.new.page w2 h in
    let e = q.1 in
    let a = c.loop-n.invariant.1 limits time in
    let b = line_cut limits begins (drop at t) s n c.loop-n.commands e.0 c.answer_mutator.new.commands (slice_from_place_is_drop t at) (narrow_line_fits_every_limit limits n q.0.1) q.0.0 e.1 in
    subst (λ l. IsFirstCut limits says begins l c.args.commands.now c.args.session.now.page w0 c.answer_mutator.new.commands c.answer_mutator.new.page w2) c.as_slice-text.ensures
    (drop at t, a.0, c.loop-n.commands, a.1, b.0, e.0, b.1, b.2, texts_added_in_turn a.0 e.0 c.args.session.now.page w0 c.loop-n.page w1 c.answer_mutator.new.page w2 false a.2 e.2)
