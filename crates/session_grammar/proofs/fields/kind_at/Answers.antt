use Rattle.std.proofs.Common.{◌∙◌, sym}
use Rattle.session_grammar.proofs.NameBytes.{kind_size}
use Rattle.session_grammar.proofs.fields.kind_at.Goals as goal

pub returns-clause-long : goal.returns-clause-long
returns-clause-long c = kind_size c.args.text.now c.word_size-size.result c.in_ok-kind.kind c.word_size-size.ensures.value (sym c.in_ok-kind.was ∙ c.kind_of.ensures)
