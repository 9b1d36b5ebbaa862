use Rattle.std.proofs.Common.{None, Some, length-drop, drop, arith}
use Rattle.std.proofs.lemmas.List.{take_all}
use Rattle.heap_pins.proofs.FirstCells.{first_byte_is_first, go_on}
use Rattle.heap_pins.proofs.reads.first_state.Goals as goal

pub returns-in-Some : goal.returns-in-Some
unfolding go_on
returns-in-Some c = first_byte_is_first c.args.states.now c.args.from _ (Some c.in-Some.found) c.requires (omega (arith, c.told-states)) (take_all _ (drop c.args.from c.args.states.now) (omega (arith, length-drop c.args.from c.args.states.now, c.told-states))) c.in-Some.ensures

pub returns-in-None : goal.returns-in-None
unfolding go_on
returns-in-None c = first_byte_is_first c.args.states.now c.args.from _ None c.requires (omega (arith, c.told-states)) (take_all _ (drop c.args.from c.args.states.now) (omega (arith, length-drop c.args.from c.args.states.now, c.told-states))) c.in-None.ensures
