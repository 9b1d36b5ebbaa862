use Rattle.heap_pins.proofs.AddedCopies.{states_of_region_in_use, states_of_unused_region}
use Rattle.heap_pins.proofs.cells.states_now.Goals as goal

pub returns-in-Some : goal.returns-in-Some
returns-in-Some c = states_of_region_in_use c.args.regions.now.regions c.args.region c.in-Some.storage c.storage_states.result c.in-Some.ensures (c.storage_states.ensures c.args.region)

pub returns-in-None : goal.returns-in-None
returns-in-None c = states_of_unused_region c.args.regions.now.regions c.args.region c.blank.result c.in-None.ensures c.blank.ensures
