use Rattle.std.proofs.Common.{◌∙◌, ℕ, refl, subst, sym}
use Rattle.std.specs.Prelude.{Option}
use Rattle.session_text.specs.Replies.{reply_text}
use Rattle.question_grammar.specs.NoteLines.{place_opened}
use Rattle.seat_session.specs.SeatStations.{OpensOrAnswers, Station}
use Rattle.seat_session.proofs.asking.AskingSeatCommands.answer_unknown.Goals as goal

pub returns-in-Some : goal.returns-in-Some
returns-in-Some g c =
    let config = g.L.Heap.config in
    let line = c.args.line.now in
    let text = reply_text c.act.result in
    subst (λ (s : Station). OpensOrAnswers config (place_opened s.bookmarks line) line s text c.act.new.self) c.self.view_is
    (subst (λ (o : Option (Option ℕ)). OpensOrAnswers config o line c.self.inside.joined text c.act.new.self) (sym c.in-Some.is ∙ c.place_opened.ensures) (c.act.result, c.act.ensures.acts, refl))
