use Rattle.std.proofs.Common.{[], ◌∷◌}
use Rattle.std.proofs.lemmas.Result.{err_from_is_err_and}
use Rattle.heap_orders.proofs.CycleSteps.{mark_allowed, mark_stopped, marked_last, marked_on}
use Rattle.heap_orders.proofs.cycle.take_mark.Goals as goal

pub take-requires-clause-allowed : goal.take-requires-clause-allowed
take-requires-clause-allowed g c = mark_allowed (g.S.Steps.seen c.args.steps.now).trail.current c.next_mark_on-event.result c.next_mark_on-event.ensures c.requires.swept

pub returns-in_err-answer-clause-refused : goal.returns-in_err-answer-clause-refused
returns-in_err-answer-clause-refused g c =
    let p = err_from_is_err_and c.from_residual.result c.from_residual.ensures.1 in
    rw (p.1, p.2) (mark_stopped g.S.Steps.denies (g.S.Steps.seen c.args.steps.now) c.next_mark_on-event.result c.in_err-answer.field-0.0 c.next_mark_on-event.ensures c.requires.swept c.in_err-answer.ensures.refused)

pub returns-then-not-is_last-clause-taken : goal.returns-then-not-is_last-clause-taken
returns-then-not-is_last-clause-taken g c = (
  (c.next_mark_on-event.result, c.in_ok-answer.answer) ∷ [],
  marked_on (g.S.Steps.seen c.args.steps.now) (g.S.Steps.seen c.take.new.self) c.next_mark_on-event.result c.in_ok-answer.answer c.ends_cycle-is_last.result c.next_mark_on-event.ensures c.requires.swept c.in_ok-answer.ensures.done c.ends_cycle-is_last.ensures c.if-not-is_last.true,
  c.in_ok-answer.ensures.taken,
)

pub returns-clause-taken : goal.returns-clause-taken
returns-clause-taken g c = (
  (c.next_mark_on-event.result, c.in_ok-answer.answer) ∷ [],
  marked_last (g.S.Steps.seen c.args.steps.now) (g.S.Steps.seen c.take.new.self) c.next_mark_on-event.result c.in_ok-answer.answer c.ends_cycle-is_last.result c.condemned_of.result c.next_mark_on-event.ensures c.requires.swept c.in_ok-answer.ensures.done c.ends_cycle-is_last.ensures c.if-not-is_last.false c.condemned_of.ensures,
  c.in_ok-answer.ensures.taken,
)
