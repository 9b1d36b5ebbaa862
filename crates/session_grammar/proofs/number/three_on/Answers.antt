use Rattle.std.proofs.Common.{◌+◌, ◌*◌, arith}
use Rattle.session_grammar.proofs.NumberDigits.{read_in_digit}
use Rattle.session_grammar.proofs.number.three_on.Goals as goal

pub returns-in_default-digit_of : goal.returns-in_default-digit_of
returns-in_default-digit_of c =
    let t = c.args.text.now in
    let one = read_in_digit t c.args.at 8 c.args.value c.in-Some.digit (omega (arith, c.requires.0)) (omega arith) c.in-Some.ensures (c.requires.1, c.requires.2) in
    (one.0, one.1, omega arith)

pub returns-in_default-digit_of-2 : goal.returns-in_default-digit_of-2
returns-in_default-digit_of-2 c =
    let t = c.args.text.now in
    let one = read_in_digit t c.args.at 8 c.args.value c.in-Some.digit (omega (arith, c.requires.0)) (omega arith) c.in-Some.ensures (c.requires.1, c.requires.2) in
    let two = read_in_digit t c.args.at 9 (c.args.value * 10 + c.in-Some.digit) c.in-Some-digit_of.digit (omega (arith, c.requires.0)) (omega arith) c.in-Some-digit_of.ensures one in
    (two.0, two.1, omega arith)

pub returns : goal.returns
returns c =
    let t = c.args.text.now in
    let one = read_in_digit t c.args.at 8 c.args.value c.in-Some.digit (omega (arith, c.requires.0)) (omega arith) c.in-Some.ensures (c.requires.1, c.requires.2) in
    let two = read_in_digit t c.args.at 9 (c.args.value * 10 + c.in-Some.digit) c.in-Some-digit_of.digit (omega (arith, c.requires.0)) (omega arith) c.in-Some-digit_of.ensures one in
    let three = read_in_digit t c.args.at 10 ((c.args.value * 10 + c.in-Some.digit) * 10 + c.in-Some-digit_of.digit) c.in-Some-digit_of-2.digit (omega (arith, c.requires.0)) (omega arith) c.in-Some-digit_of-2.ensures two in
    (three.0, three.1, omega arith)
