use Rattle.heap_pins.proofs.AddedCopies.{other_states_stay, reclaimed_states_are_restored, swept_states_are_restored}
use Rattle.heap_pins.proofs.cells.restore_states.Goals as goal

pub returns-in-Sweep : goal.returns-in-Sweep
returns-in-Sweep c f r touched old = swept_states_are_restored c.args.left.now c.in-Sweep.region c.in-Sweep.dead c.in-Sweep.is f r c.args.states.now c.restore_dead.new.states touched old
    (rw c.as_slice.ensures at c.restore_dead.ensures)

pub returns-in-Reclaim : goal.returns-in-Reclaim
returns-in-Reclaim c f r touched old = reclaimed_states_are_restored c.args.left.now c.in-Reclaim.region c.in-Reclaim.storage c.in-Reclaim.is f r c.storage_states.result touched
    (λ q. rw c.view.ensures at (c.storage_states.ensures q))

pub returns-in_default : goal.returns-in_default
returns-in_default c f r touched old = other_states_stay c.args.left.now c.in_default.not-Sweep c.in_default.not-Reclaim f r c.args.states.now touched old
