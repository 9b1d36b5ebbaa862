use Rattle.session_grammar.proofs.WholeWords.{word_without_digits_no_number, several_words_are_no_number}
use Rattle.session_grammar.proofs.number.number_of.Goals.{then-size-eq0-via-then-size-eq0, then-size-eq0-via-else-size-eq0+then-size-word}
use Rattle.session_grammar.proofs.number.number_of.Goals as goal

pub returns-then-size-eq0 : goal.returns-then-size-eq0
returns-then-size-eq0 c =
    let at = c.number_at-value.ensures.value in
    elim c.then-size-eq0.branch [
      | then-size-eq0-via-then-size-eq0 w ↦ word_without_digits_no_number c.args.word.now c.number_at-value.result.0 c.number_at-value.result.1 at w.if-size-eq0.true
      | then-size-eq0-via-else-size-eq0+then-size-word w ↦ several_words_are_no_number c.args.word.now c.number_at-value.result.0 c.number_at-value.result.1 at w.if-size-eq0.false w.if-size-word.true
    ]
