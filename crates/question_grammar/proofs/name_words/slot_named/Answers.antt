use Rattle.std.proofs.Common.{arith, sym}
use Rattle.question_grammar.proofs.NameWords.{no_slot}
use Rattle.question_grammar.proofs.name_words.slot_named.Goals as goal

pub returns-else-class-len : goal.returns-else-class-len
returns-else-class-len c = sym (no_slot c.args.classes.now c.args.class c.args.name.now (omega (arith, c.len.ensures.value, c.if-class-len.false)))
