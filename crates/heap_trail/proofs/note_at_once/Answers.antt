use Rattle.std.proofs.Common.{length, sym, ◌∙◌}
use Rattle.std.proofs.lemmas.Bool.{eqb-true}
use Rattle.heap_trail.proofs.EachPin.{no_pins_keep}
use Rattle.heap_trail.proofs.note_at_once.Goals as goal

pub returns-then-is_empty-clause-noted : goal.returns-then-is_empty-clause-noted
returns-then-is_empty-clause-noted c noted = no_pins_keep c.args.left.now c.args.world.now c.args.pins.now (eqb-true (length c.args.pins.now) 0 (sym c.is_empty.ensures ∙ c.if-is_empty.true))
