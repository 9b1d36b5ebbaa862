use Rattle.std.proofs.Common.{ℕ, [], ◌∷◌, subst, sym}
use Rattle.std.proofs.lemmas.Result.{err_from_is_err_and}
use Rattle.heap_step.specs.declared.Event.TheVariants.{Sweep}
use Rattle.heap_trail.specs.Machine.{Machine}
use Rattle.heap_world.specs.Legal.{IsLegal}
use Rattle.heap_orders.specs.Collections.{IsSwept}
use Rattle.heap_orders.proofs.CycleSteps.{one_swept, sweep_allowed, sweep_stopped}
use Rattle.heap_orders.proofs.cycle.sweep_region.Goals as goal

pub take-requires-clause-allowed : goal.take-requires-clause-allowed
take-requires-clause-allowed g c = sweep_allowed (g.S.Steps.seen c.args.steps.now).trail.current c.args.region c.requires.waiting

pub returns-clause-swept : goal.returns-clause-swept
returns-clause-swept g c =
    let start = g.S.Steps.seen c.args.steps.now in
    let next = g.S.Steps.seen c.take.new.self in
    let answer = c.in_ok-answer.answer in
    let legal = subst (λ (m : Machine). IsLegal m.trail.current) c.machine.ensures c.world.ensures.legal in
    let swept = one_swept start next c.args.region answer legal c.requires.waiting c.in_ok-answer.ensures.done in
    let step = (Sweep c.args.region, answer) ∷ [] in (
      step,
      subst (λ (n : ℕ). IsSwept start step n next) (sym c.swept_of.ensures) swept,
      c.in_ok-answer.ensures.taken,
    )

pub returns-in_err-answer-clause-refused : goal.returns-in_err-answer-clause-refused
returns-in_err-answer-clause-refused g c =
    let p = err_from_is_err_and c.from_residual.result c.from_residual.ensures.1 in
    rw (p.1, p.2) (λ b. sweep_stopped g.S.Steps.denies b (g.S.Steps.seen c.args.steps.now) c.args.region c.in_err-answer.field-0.0 c.requires.waiting c.in_err-answer.ensures.refused)
