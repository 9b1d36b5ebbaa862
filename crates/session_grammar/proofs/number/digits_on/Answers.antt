use Rattle.std.proofs.Common.{◌+◌, ◌-◌, ◌<◌, ◌≤◌, arith, get_or, length}
use Rattle.session_grammar.proofs.Numbers.{digit_more_stays_below_limit, short_value_times_ten_fits}
use Rattle.session_grammar.proofs.NumberDigits.{read_in_sure, read_in_last}
use Rattle.session_grammar.proofs.number.digits_on.Goals as goal

pub loop-size-init : goal.loop-size-init
loop-size-init c = (c.requires.0, grind (arith, c.requires.0.0, c.requires.2, c.min-sure.ensures), c.requires.1)

pub overflow_mul-value : goal.overflow_mul-value
overflow_mul-value c = omega (arith, short_value_times_ten_fits c.loop-size.size c.loop-size.value (grind (arith, c.loop-size-test.true, c.min-sure.ensures)) c.loop-size.invariant.2)

pub returns-in-Some : goal.returns-in-Some
returns-in-Some c =
    let i = c.loop-size.invariant in
    let lt : c.args.at + c.loop-size.size < length c.args.text.now = grind (arith, i.0.0, c.if-at-size.false) in
    let most : c.loop-size.size ≤ 19 = grind (arith, i.1, c.min-sure.ensures) in
    read_in_last c.args.text.now c.args.at c.loop-size.size c.loop-size.value c.in-Some.whole lt most c.in-Some.ensures i.0

pub overflow_add-value : goal.overflow_add-value
overflow_add-value c =
    let i = c.loop-size.invariant in
    let few : c.loop-size.size < 19 = grind (arith, c.loop-size-test.true, c.min-sure.ensures) in
    let high : c.from-b.result ≤ 57 = omega (arith, c.if-b-gt57.false) in
    let sure = digit_more_stays_below_limit c.loop-size.size c.loop-size.value (c.from-b.result - 48) few i.2 (omega (arith, high)) in
    omega (arith, sure.0)

pub loop-size-preserved : goal.loop-size-preserved
loop-size-preserved c =
    let i = c.loop-size.invariant in
    let lt : c.args.at + c.loop-size.size < length c.args.text.now = grind (arith, c.loop-size-test.true, c.min-sure.ensures) in
    let few : c.loop-size.size < 19 = grind (arith, c.loop-size-test.true, c.min-sure.ensures) in
    let low : 48 ≤ get_or c.args.text.now (c.args.at + c.loop-size.size) 0 = omega (arith, c.if-b-lt48.false, c.from-b.ensures) in
    let high : get_or c.args.text.now (c.args.at + c.loop-size.size) 0 ≤ 57 = omega (arith, c.if-b-gt57.false, c.from-b.ensures) in
    let more = read_in_sure c.args.text.now c.args.at c.loop-size.size c.loop-size.value lt few low high i.0 i.2 in
    rw c.from-b.ensures (more.0, omega (arith, c.loop-size-test.true), more.1)
