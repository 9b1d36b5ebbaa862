use Rattle.std.proofs.Common.{◌∙◌, arith, sym}
use Rattle.heap_class.specs.Classes.{fields_of}
use Rattle.question_grammar.proofs.NameWords.{field_here, field_on}
use Rattle.question_grammar.proofs.name_words.field_named.Goals as goal

pub returns-then-is_word : goal.returns-then-is_word
returns-then-is_word c =
    sym
    (c.loop-field.invariant
    ∙ field_here (fields_of c.args.classes.now c.args.class) c.args.first c.loop-field.field c.field_name.result.now c.args.name.now (omega (arith, c.field_count-field-end.ensures.value, c.loop-field-test.true)) c.field_name.ensures (sym c.is_word.ensures ∙ c.if-is_word.true))

pub loop-field-preserved : goal.loop-field-preserved
loop-field-preserved c =
    c.loop-field.invariant
    ∙ field_on (fields_of c.args.classes.now c.args.class) c.args.first c.loop-field.field c.field_name.result.now c.args.name.now (omega (arith, c.field_count-field-end.ensures.value, c.loop-field-test.true)) c.field_name.ensures (sym c.is_word.ensures ∙ c.if-is_word.false)
