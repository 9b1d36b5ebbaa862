use Rattle.heap_step.proofs.AppliedResults.{answered_event_as_applied, refused_event_or_no_memory, applied_event_keeps_legal, applied_event_keeps_found}
use Rattle.heap_step.proofs.step.apply.Goals as goal

pub returns-clause-done : goal.returns-clause-done
returns-clause-done c = answered_event_as_applied _ _ _ _ c.apply_to.ensures

pub returns-clause-refused : goal.returns-clause-refused
returns-clause-refused c = refused_event_or_no_memory _ _ _ _ c.apply_to.ensures

pub returns-clause-legal : goal.returns-clause-legal
returns-clause-legal c = applied_event_keeps_legal _ _ _ _ c.phase-phase.ensures.legal c.apply_to.ensures

pub returns-clause-found : goal.returns-clause-found
returns-clause-found c = applied_event_keeps_found _ _ _ _ c.phase-phase.ensures.legal c.apply_to.ensures
