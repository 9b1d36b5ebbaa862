use Rattle.std.proofs.Common.{◌∙◌, arith, sym}
use Rattle.question_grammar.specs.NameWords.{class_named}
use Rattle.question_grammar.proofs.NameWords.{class_here, class_on}
use Rattle.question_grammar.proofs.name_words.class_named.Goals as goal

pub returns-then-is_word : goal.returns-then-is_word
unfolding class_named
returns-then-is_word c =
    sym
    (c.loop-class.invariant
    ∙ class_here c.args.classes.now c.loop-class.class c.name.result.now c.args.name.now (omega (arith, c.len-class-end.ensures.value, c.loop-class-test.true)) c.name.ensures.value (sym c.is_word.ensures ∙ c.if-is_word.true))

pub loop-class-preserved : goal.loop-class-preserved
loop-class-preserved c =
    c.loop-class.invariant
    ∙ class_on c.args.classes.now c.loop-class.class c.name.result.now c.args.name.now (omega (arith, c.len-class-end.ensures.value, c.loop-class-test.true)) c.name.ensures.value (sym c.is_word.ensures ∙ c.if-is_word.false)
