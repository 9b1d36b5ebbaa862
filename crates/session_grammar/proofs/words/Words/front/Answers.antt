use Rattle.std.proofs.Common.{◌∙◌, ap, sym, refl, ◌-◌, take, drop, length}
use Rattle.std.specs.Prelude.{not}
use Rattle.std.specs.Bool.{◌==◌}
use Rattle.std.specs.List.{position}
use Rattle.session_grammar.proofs.TextWords.{spaces_alone_give_no_words, front_word}
use Rattle.session_grammar.proofs.words.Words.front.Goals as goal

pub returns-in_err-start-clause-front : goal.returns-in_err-start-clause-front
returns-in_err-start-clause-front c = rw c.from_residual.ensures (spaces_alone_give_no_words c.args.self.now (sym c.in_err-start.was ∙ c.word_start.ensures.value ∙ ap (position (λ b. not (b == 32))) c.self.view_is))

pub returns-clause-front : goal.returns-clause-front
returns-clause-front c =
    let n = c.in_ok-start.start in
    let at = sym c.in_ok-start.was ∙ c.word_start.ensures.value ∙ ap (position (λ b. not (b == 32))) c.self.view_is in
    (refl, front_word c.args.self.now _ n at (ap (λ xs. take (length xs - n) (drop n xs)) c.self.view_is))
