use Rattle.secret_word.proofs.WordEnds.{word_is_text_without_end, text_without_cut_is_word}
use Rattle.secret_word.proofs.ends.without_end.Goals as goal

pub returns-then-line-text-clause-only : goal.returns-then-line-text-clause-only
returns-then-line-text-clause-only c = text_without_cut_is_word c.args.text.now c.without-line.result.now c.if-line-text.true c.without-line.ensures

pub returns-else-line-text-clause-only : goal.returns-else-line-text-clause-only
returns-else-line-text-clause-only c = word_is_text_without_end c.args.text.now c.without-line.result.now c.without_cr.result.now c.if-line-text.false c.without-line.ensures c.without_cr.ensures
