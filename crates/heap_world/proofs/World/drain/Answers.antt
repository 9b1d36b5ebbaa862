use Rattle.heap_world.proofs.MarkerParts.{log_entries_name_objects}
use Rattle.heap_world.proofs.MarkerEvents.{drain_held, drain_made}
use Rattle.heap_world.proofs.World.drain.Goals as goal

pub drain-requires-clause-entries : goal.drain-requires-clause-entries
drain-requires-clause-entries c = log_entries_name_objects _ _ c.self.invariant

pub invariant_of-self : goal.invariant_of-self
invariant_of-self c = drain_held _ _ _ _ c.drain.result c.self.invariant c.drain.ensures.answered c.drain.ensures.marker c.drain.ensures.regions c.drain.ensures.unchanged

pub returns-clause-drained : goal.returns-clause-drained
returns-clause-drained c = drain_made _ _ _ _ _ c.drain.result c.self.view_is c.drain.ensures.marker c.drain.ensures.regions
