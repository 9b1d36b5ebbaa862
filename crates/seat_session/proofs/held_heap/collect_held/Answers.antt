use Rattle.seat_session.proofs.held_heap.collect_held.Goals as goal

pub returns-clause-collects : goal.returns-clause-collects
returns-clause-collects g c =
    let h = c.run_cycle_held-cycle.ensures.runs in
    (h.0, (c.run_cycle_held-cycle.result, h.1, c.collect_answer.ensures), h.2, h.3)
