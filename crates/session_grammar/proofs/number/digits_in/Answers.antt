use Rattle.std.proofs.Common.{◌≡◌, ◌+◌, ◌-◌, ◌*◌, ◌<◌, arith, length, refl, subst, take, drop}
use Rattle.session_grammar.proofs.NumberDigits.{IsReadTill, read_in_none, read_in_first_eight, read_in_eight, read_in_last}
use Rattle.session_grammar.proofs.number.digits_in.Goals as goal

pub digits_on-requires : goal.digits_on-requires
digits_on-requires c = (read_in_none c.args.text.now c.args.at c.requires, omega arith, omega arith)

pub digits_on-requires-in_default : goal.digits_on-requires-in_default
digits_on-requires-in_default c = (read_in_none c.args.text.now c.args.at c.requires, omega arith, omega arith)

pub three_on-value-requires : goal.three_on-value-requires
three_on-value-requires c =
    let first = read_in_first_eight c.args.text.now c.args.at c.in-Some.eight c.requires c.in-Some.ensures in
    (omega (arith, c.requires, c.if-text-at-lt-DIGIT_LIMIT.false), first.0, first.1)

pub returns-in-Some-with_digit : goal.returns-in-Some-with_digit
returns-in-Some-with_digit c =
    let t = c.args.text.now in
    let at = c.args.at in
    let value = c.three_on-value.result.0 in
    let long : at + 19 < length t = omega (arith, c.requires, c.if-text-at-lt-DIGIT_LIMIT.false) in
    let is : c.three_on-value.result.1 ≡ 11 = omega (arith, c.three_on-value.ensures.2, c.if-size-lt11.false) in
    let till : IsReadTill t at value 11 = subst (λ n. IsReadTill t at value n) is (c.three_on-value.ensures.0, c.three_on-value.ensures.1) in
    let sure = read_in_eight t (take (length t - (at + 11)) (drop (at + 11) t)) at 11 value c.in-Some-first_eight.eight (omega (arith, long)) (omega arith) refl c.in-Some-first_eight.ensures till.0 till.1 in
    read_in_last t at 19 (value * 100000000 + c.in-Some-first_eight.eight) c.in-Some-with_digit.whole long (omega arith) c.in-Some-with_digit.ensures sure.0

pub returns-in-None : goal.returns-in-None
returns-in-None c =
    let t = c.args.text.now in
    let at = c.args.at in
    let value = c.three_on-value.result.0 in
    let is : c.three_on-value.result.1 ≡ 11 = omega (arith, c.three_on-value.ensures.2, c.if-size-lt11.false) in
    let till : IsReadTill t at value 11 = subst (λ n. IsReadTill t at value n) is (c.three_on-value.ensures.0, c.three_on-value.ensures.1) in
    let sure = read_in_eight t (take (length t - (at + 11)) (drop (at + 11) t)) at 11 value c.in-Some-first_eight.eight (omega (arith, c.requires, c.if-text-at-lt-DIGIT_LIMIT.false)) (omega arith) refl c.in-Some-first_eight.ensures till.0 till.1 in
    sure.0
