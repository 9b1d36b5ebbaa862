use Rattle.std.proofs.Common.{◌≡◌, ◌∙◌, ◌<◌, ◌≤◌, subst, sym, arith, drop, get_or, length, leb-true}
use Rattle.std.proofs.lemmas.Bool.{and_parts}
use Rattle.session_grammar.specs.Reads.{IsReadTo}
use Rattle.session_grammar.proofs.Numbers.{nothing_read_yet_is_zero, early_digit_read_surely, bad_byte_ends_no_number, read_to_space, read_to_end, digit_more_stays_below_limit, short_value_times_ten_fits}
use Rattle.session_grammar.proofs.number.number_at.Goals as goal

pub loop-size-init : goal.loop-size-init
loop-size-init c = (nothing_read_yet_is_zero c.args.text.now, omega arith, omega arith)

pub returns-then-b-eq-SPACE-clause-value : goal.returns-then-b-eq-SPACE-clause-value
returns-then-b-eq-SPACE-clause-value c =
    let i = c.loop-size.invariant in
    let lt : c.loop-size.size < length c.args.text.now = grind (arith, c.loop-size-test.true, c.min-sure.ensures) in
    let few : c.loop-size.size ≤ 20 = grind (arith, c.loop-size-test.true, c.min-sure.ensures) in
    read_to_space c.args.text.now c.loop-size.size c.loop-size.value lt few c.if-b-eq-SPACE.true i.0

pub returns-then-not-is_ascii_digit-clause-value : goal.returns-then-not-is_ascii_digit-clause-value
returns-then-not-is_ascii_digit-clause-value c =
    let i = c.loop-size.invariant in
    let lt : c.loop-size.size < length c.args.text.now = grind (arith, c.loop-size-test.true, c.min-sure.ensures) in
    bad_byte_ends_no_number c.args.text.now c.loop-size.size c.loop-size.value lt c.if-b-eq-SPACE.false (sym c.is_ascii_digit.ensures.value ∙ c.if-not-is_ascii_digit.true) i.0

pub overflow_mul-value : goal.overflow_mul-value
overflow_mul-value c = omega (arith, short_value_times_ten_fits c.loop-size.size c.loop-size.value (grind (arith, c.loop-size-test.true, c.min-sure.ensures)) c.loop-size.invariant.2)

pub overflow_add-value : goal.overflow_add-value
overflow_add-value c =
    let i = c.loop-size.invariant in
    let few : c.loop-size.size < 19 = grind (arith, c.loop-size-test.true, c.min-sure.ensures) in
    let both = and_parts _ _ (sym c.is_ascii_digit.ensures.value ∙ c.if-not-is_ascii_digit.false) in
    let high : get_or c.args.text.now c.loop-size.size 0 ≤ 57 = leb-true _ _ both.1 in
    let digit : c.from.result ≤ 9 = omega (arith, high, c.from.ensures) in
    let sure = digit_more_stays_below_limit c.loop-size.size c.loop-size.value c.from.result few i.2 digit in
    omega (arith, sure.0)

pub loop-size-preserved : goal.loop-size-preserved
loop-size-preserved c =
    let i = c.loop-size.invariant in
    let lt : c.loop-size.size < length c.args.text.now = grind (arith, c.loop-size-test.true, c.min-sure.ensures) in
    let few : c.loop-size.size < 19 = grind (arith, c.loop-size-test.true, c.min-sure.ensures) in
    let more = early_digit_read_surely c.args.text.now c.loop-size.size c.loop-size.value lt few (sym c.is_ascii_digit.ensures.value ∙ c.if-not-is_ascii_digit.false) i.0 i.2 in
    rw c.from.ensures (more.0, omega (arith, c.loop-size-test.true), more.1)

pub returns-then-size-text-clause-value : goal.returns-then-size-text-clause-value
returns-then-size-text-clause-value c =
    let i = c.loop-size.invariant in
    let few : c.loop-size.size ≤ 20 = grind (arith, i.1, c.min-sure.ensures) in
    read_to_end c.args.text.now c.loop-size.size c.loop-size.value (omega (arith, c.if-size-text.true)) few i.0

pub last_digit-requires : goal.last_digit-requires
last_digit-requires c =
    let i = c.loop-size.invariant in
    let lt : 19 < length c.args.text.now = grind (arith, i.1, c.loop-size-test.false, c.if-size-text.false, c.min-sure.ensures) in
    let is : c.loop-size.size ≡ 19 = grind (arith, i.1, c.loop-size-test.false, c.if-size-text.false, c.min-sure.ensures) in
    (lt, subst (λ n. IsReadTo c.args.text.now (drop n c.args.text.now) n c.loop-size.value) is i.0)
