use Rattle.std.proofs.Common.{◌≡◌, ◌≢◌, ◌∙◌, arith, sym}
use Rattle.std.proofs.lemmas.Bool.{eq-eqb, ne_eqb}
use Rattle.question_words.proofs.PinStatuses.{no_status, one_pin_further, status_found}
use Rattle.question_words.proofs.at.status_of_pin.Goals as goal

pub returns-then-listed-pin : goal.returns-then-listed-pin
returns-then-listed-pin c =
    let listed = c.in-Some.listed in
    let same : listed.number ≡ c.args.pin = omega (arith, c.if-listed-pin.true) in
    status_found c.args.machine.now.pins c.args.pin c.loop-listed.index listed c.loop-listed.invariant.none (sym c.nth_pin.ensures.value ∙ c.in-Some.is) (eq-eqb listed.number c.args.pin same)

pub loop-listed-smaller : goal.loop-listed-smaller
loop-listed-smaller c =
    let listed = c.in-Some.listed in
    let other : listed.number ≢ c.args.pin = λ e. omega (arith, c.if-listed-pin.false, e) in
    let more = one_pin_further c.args.machine.now.pins c.args.pin c.loop-listed.index listed c.loop-listed.invariant.none (sym c.nth_pin.ensures.value ∙ c.in-Some.is) (ne_eqb listed.number c.args.pin other) in
    omega (arith, more.0)

pub loop-listed-preserved : goal.loop-listed-preserved
loop-listed-preserved c =
    let listed = c.in-Some.listed in
    let other : listed.number ≢ c.args.pin = λ e. omega (arith, c.if-listed-pin.false, e) in
    let more = one_pin_further c.args.machine.now.pins c.args.pin c.loop-listed.index listed c.loop-listed.invariant.none (sym c.nth_pin.ensures.value ∙ c.in-Some.is) (ne_eqb listed.number c.args.pin other) in
    record { none = more.1; few = omega (arith, more.0) }

pub returns : goal.returns
returns c = no_status c.args.machine.now.pins c.args.pin c.loop-listed.index c.loop-listed.invariant.none (sym c.nth_pin.ensures.value ∙ c.in_default.is)
