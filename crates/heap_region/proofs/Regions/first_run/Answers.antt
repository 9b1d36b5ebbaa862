use Rattle.std.proofs.lemmas.List.{length-map}
use Rattle.heap_region.specs.Pool.{first_run}
use Rattle.heap_region.specs.Table.{shown_region}
use Rattle.heap_region.proofs.Regions.first_run.Goals as goal

pub returns-clause-value : goal.returns-clause-value
unfolding first_run
returns-clause-value c = rw (← c.self.view_is, length-map c.self.inside.slots shown_region) c.first_run.ensures.value
