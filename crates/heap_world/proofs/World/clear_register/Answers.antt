use Rattle.std.proofs.Common.{inl, sym}
use Rattle.heap_world.proofs.RegisterEvents.{clear_no_register, clear_of_register_accepted, legal_after_register_cleared}
use Rattle.heap_world.proofs.World.clear_register.Goals as goal

pub returns-then-not-has_register-clause-answered : goal.returns-then-not-has_register-clause-answered
returns-then-not-has_register-clause-answered c = inl (clear_no_register _ _ _ (sym c.if-not-has_register.ensures))

pub set_register-requires-clause-legal : goal.set_register-requires-clause-legal
set_register-requires-clause-legal c = legal_after_register_cleared _ _ _

pub returns-clause-answered : goal.returns-clause-answered
returns-clause-answered c = clear_of_register_accepted _ _ _ (sym c.if-not-has_register.ensures)
