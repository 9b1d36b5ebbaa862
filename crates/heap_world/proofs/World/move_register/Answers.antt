use Rattle.std.proofs.Common.{inl, inr, sym, ◌∙◌}
use Rattle.heap_world.proofs.RegisterEvents.{move_no_register, move_between_registers_accepted, legal_after_register_moved, register_written_is_move}
use Rattle.heap_world.proofs.World.move_register.Goals.{then-not-has_register-via-then-not-has_register, then-not-has_register-via-else-not-has_register+then-not-has_register-2}
use Rattle.heap_world.proofs.World.move_register.Goals as goal

pub returns-then-not-has_register-clause-answered : goal.returns-then-not-has_register-clause-answered
returns-then-not-has_register-clause-answered c = inl (move_no_register _ _ _ _ _ (elim c.then-not-has_register.branch [
  | then-not-has_register-via-then-not-has_register w ↦ inl (sym w.if-not-has_register.ensures)
  | then-not-has_register-via-else-not-has_register+then-not-has_register-2 w ↦ inr (sym w.if-not-has_register-2.ensures)
]))

pub set_register-requires-clause-legal : goal.set_register-requires-clause-legal
set_register-requires-clause-legal c = legal_after_register_moved _ _ _ _ _ _ (sym c.if-not-has_register-2.ensures) c.register-copied.ensures

pub returns-clause-answered : goal.returns-clause-answered
returns-clause-answered c = move_between_registers_accepted _ _ _ _ _ (sym c.if-not-has_register.ensures) (sym c.if-not-has_register-2.ensures)

pub returns-clause-moved : goal.returns-clause-moved
returns-clause-moved c = c.set_register.ensures ∙ register_written_is_move _ _ _ _ _ _ c.register-copied.ensures
