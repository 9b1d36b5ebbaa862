use Rattle.std.proofs.Common.{◌∙◌}
use Rattle.heap_pins.specs.Pin.{state_seen}
use Rattle.heap_pins.specs.Walk.{states_before}
use Rattle.heap_pins.proofs.AddedCopies.{copy_is_put_back}
use Rattle.heap_pins.proofs.CellStates.{bytes_are_states}
use Rattle.heap_pins.proofs.pin.Pin.put_copy_before.Goals as goal

pub returns-clause-put : goal.returns-clause-put
returns-clause-put c =
    let seen = state_seen c.args.self.now c.args.world.now.regions in
    copy_is_put_back c.args.self.now _ c.put.new.self c.args.region c.in_ok-copy.copy _ c.restore_states.new.states _ (c.self.view_is ∙ c.take_copy_before.ensures.left) c.put.ensures c.in_ok-copy.ensures.taken
    (bytes_are_states (states_before c.args.left.now seen) c.args.region c.restore_states.new.states (c.restore_states.ensures seen c.args.region c.requires.touched c.states-states.ensures))
