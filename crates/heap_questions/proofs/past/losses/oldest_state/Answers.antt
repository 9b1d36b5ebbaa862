use Rattle.std.proofs.Common.{◌-◌, sym, subst}
use Rattle.heap_questions.specs.Losses.{HasStood}
use Rattle.heap_questions.proofs.PastLosses.{stood_always, stood_since}
use Rattle.heap_questions.proofs.past.losses.oldest_state.Goals as goal

pub returns-in-Some : goal.returns-in-Some
returns-in-Some c =
    let t = c.args.past.now in
    subst (λ p. HasStood t c.args.at (p - c.in-Some.place)) (sym c.place-now.ensures.value)
    (stood_since c.place-now.ensures.trail.0 t c.args.at c.in-Some.place c.place-now.ensures.trail.1 c.in-Some.ensures.born)

pub returns-in-None : goal.returns-in-None
returns-in-None c =
    let t = c.args.past.now in
    subst (HasStood t c.args.at) (sym c.retained_count.ensures) (stood_always t c.args.at c.in-None.ensures.none)
