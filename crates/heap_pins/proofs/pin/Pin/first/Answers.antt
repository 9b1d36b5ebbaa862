use Rattle.std.proofs.Common.{◌*◌, length}
use Rattle.heap_pins.specs.Pin.{state_seen, states_seen}
use Rattle.heap_pins.proofs.NextPlace.{first_place_is_found}
use Rattle.heap_pins.proofs.pin.Pin.first.Goals as goal

pub returns : goal.returns
unfolding states_seen
returns c = first_place_is_found (state_seen c.args.self.now c.args.world.now.regions) (256 * length c.args.world.now.regions) 0 c.first_from.result c.first_from.ensures
