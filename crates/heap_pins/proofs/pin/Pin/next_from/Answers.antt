use Rattle.std.proofs.Common.{◌*◌, ◌+◌, length, sym, ◌∙◌, arith}
use Rattle.heap_pins.specs.Pin.{state_seen, states_seen}
use Rattle.heap_pins.proofs.NextPlace.{first_place_is_found, listed_cell_below_256}
use Rattle.heap_pins.proofs.ObjectReads.{next_live_place_from_number}
use Rattle.heap_pins.proofs.pin.Pin.next_from.Goals as goal

pub returns : goal.returns
unfolding states_seen
returns c i h =
    let regions = c.args.world.now.regions in
    first_place_is_found (state_seen c.args.self.now regions) (256 * length regions) (256 * c.args.at.region + (c.args.at.cell + 1)) c.first_from.result c.first_from.ensures
    ∙ sym (next_live_place_from_number (states_seen c.args.self.now regions) i (256 * c.args.at.region + (c.args.at.cell + 1)) c.args.at (omega arith) h).1

pub returns-then-at-ge256 : goal.returns-then-at-ge256
returns-then-at-ge256 c i h = absurd (omega (arith, listed_cell_below_256 (states_seen c.args.self.now c.args.world.now.regions) i c.args.at h, c.if-at-ge256.true))
