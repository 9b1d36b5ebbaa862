use Rattle.std.proofs.Common.{arith}
use Rattle.session_grammar.proofs.Numbers.{one_digit_read_further, other_byte_ends_without_number, digits_past_twenty_no_number, read_to_space, read_to_end}
use Rattle.session_grammar.proofs.number.last_digit.Goals.{else-text-gt-DIGIT_LIMIT-via-then-text-gt-DIGIT_LIMIT+else-text-ne-SPACE, else-text-gt-DIGIT_LIMIT-via-else-text-gt-DIGIT_LIMIT}
use Rattle.session_grammar.proofs.number.last_digit.Goals as goal

pub returns-then-text-eq-SPACE-clause-value : goal.returns-then-text-eq-SPACE-clause-value
returns-then-text-eq-SPACE-clause-value c = read_to_space c.args.text.now 19 c.args.value c.requires.0 (omega arith) c.if-text-eq-SPACE.true c.requires.1

pub returns-in_default-clause-value : goal.returns-in_default-clause-value
returns-in_default-clause-value c = other_byte_ends_without_number c.args.text.now 19 c.args.value c.requires.0 c.if-text-eq-SPACE.false c.in_default.ensures c.requires.1

pub returns-then-text-ne-SPACE-clause-value : goal.returns-then-text-ne-SPACE-clause-value
returns-then-text-ne-SPACE-clause-value c =
    digits_past_twenty_no_number c.args.text.now c.in-Some.whole (omega (arith, c.if-text-gt-DIGIT_LIMIT.true)) c.if-text-ne-SPACE.true (one_digit_read_further c.args.text.now 19 c.args.value c.in-Some.whole c.requires.0 c.if-text-eq-SPACE.false c.in-Some.ensures c.requires.1)

pub returns-clause-value : goal.returns-clause-value
returns-clause-value c =
    let h = one_digit_read_further c.args.text.now 19 c.args.value c.in-Some.whole c.requires.0 c.if-text-eq-SPACE.false c.in-Some.ensures c.requires.1 in
    elim c.else-text-gt-DIGIT_LIMIT.branch [
      | else-text-gt-DIGIT_LIMIT-via-then-text-gt-DIGIT_LIMIT+else-text-ne-SPACE w ↦ read_to_space c.args.text.now 20 c.in-Some.whole (omega (arith, w.if-text-gt-DIGIT_LIMIT.true)) (omega arith) w.if-text-ne-SPACE.false h
      | else-text-gt-DIGIT_LIMIT-via-else-text-gt-DIGIT_LIMIT w ↦ read_to_end c.args.text.now 20 c.in-Some.whole (omega (arith, w.if-text-gt-DIGIT_LIMIT.false)) (omega arith) h
    ]
