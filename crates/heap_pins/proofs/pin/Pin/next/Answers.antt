use Rattle.std.proofs.Common.{◌*◌, ◌+◌, Some, length, sym, ◌∙◌, arith}
use Rattle.heap_pins.specs.Pin.{state_seen, states_seen}
use Rattle.heap_pins.proofs.FirstCells.{live_cell_is_first}
use Rattle.heap_pins.proofs.NextPlace.{first_place_is_found}
use Rattle.heap_pins.proofs.ObjectReads.{next_live_place_from_number}
use Rattle.heap_pins.proofs.pin.Pin.next.Goals as goal

pub returns-then-is_live_now : goal.returns-then-is_live_now
unfolding states_seen
returns-then-is_live_now c i h =
    let regions = c.args.world.now.regions in
    let f = state_seen c.args.self.now regions in
    let cell = c.args.at.cell + 1 in
    let live = c.is_live_now.ensures c.if-is_live_now.true in
    first_place_is_found f (256 * length regions) (256 * c.args.at.region + cell) (Some (record { region = c.args.at.region; cell = cell }))
    (live_cell_is_first f (length regions) c.args.at.region cell live.0 (omega (arith, c.if-at-lt255.true)) live.1)
    ∙ sym (next_live_place_from_number (states_seen c.args.self.now regions) i (256 * c.args.at.region + cell) c.args.at (omega arith) h).1

pub returns-in-Some : goal.returns-in-Some
returns-in-Some c = λ i h. sym c.in-Some.is ∙ c.next_from.ensures i h

pub returns-in-None : goal.returns-in-None
returns-in-None c = λ i h. sym c.in-None.is ∙ c.next_from.ensures i h
