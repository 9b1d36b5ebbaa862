use Rattle.std.proofs.Common.{◌≡◌, ◌∙◌, ◌==◌, ◌||◌, ◌+◌, suc, sym, ap, arith, drop, eq-eqb, ne_eqb}
use Rattle.std.specs.List.{list_any}
use Rattle.seat_session.proofs.OpenPins.{pin_is_here_or_behind, no_pin_past_last}
use Rattle.seat_session.proofs.joined.is_open.Goals as goal

pub returns-then-open-pin : goal.returns-then-open-pin
returns-then-open-pin c =
    let pins = c.args.machine.now.pins.open_pins in
    let i = c.loop-open.index in
    let here = pin_is_here_or_behind c.args.pin pins i c.in-Some.open (sym c.nth_pin.ensures.value ∙ c.in-Some.is) in
    sym (c.loop-open.invariant.1 ∙ here.1 ∙ ap (λ b. b || list_any (λ e. e.0 == c.args.pin) (drop (suc i) pins)) (eq-eqb c.in-Some.open.number c.args.pin c.if-open-pin.true))

pub loop-open-smaller : goal.loop-open-smaller
loop-open-smaller c =
    let here = pin_is_here_or_behind c.args.pin c.args.machine.now.pins.open_pins c.loop-open.index c.in-Some.open (sym c.nth_pin.ensures.value ∙ c.in-Some.is) in
    omega (arith, here.0)

pub loop-open-preserved : goal.loop-open-preserved
loop-open-preserved c =
    let pins = c.args.machine.now.pins.open_pins in
    let i = c.loop-open.index in
    let here = pin_is_here_or_behind c.args.pin pins i c.in-Some.open (sym c.nth_pin.ensures.value ∙ c.in-Some.is) in
    let next : suc i ≡ i + 1 = omega arith in (
      omega (arith, here.0),
      c.loop-open.invariant.1 ∙ here.1 ∙ ap (λ b. b || list_any (λ e. e.0 == c.args.pin) (drop (suc i) pins)) (ne_eqb c.in-Some.open.number c.args.pin c.if-open-pin.false) ∙ ap (λ k. list_any (λ e. e.0 == c.args.pin) (drop k pins)) next,
    )

pub returns : goal.returns
returns c =
    sym (c.loop-open.invariant.1 ∙ no_pin_past_last c.args.pin c.args.machine.now.pins.open_pins c.loop-open.index (sym c.nth_pin.ensures.value ∙ c.in_default.is))
