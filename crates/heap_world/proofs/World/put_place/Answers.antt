use Rattle.std.proofs.Common.{sym}
use Rattle.std.proofs.lemmas.Result.{err_from_is_err_and}
use Rattle.heap_world.proofs.WriteEvents.{put_no_register, put_unnamed, put_reference, put_range, put_of_value_accepted}
use Rattle.heap_world.proofs.World.put_place.Goals as goal

pub returns-then-not-has_register-clause-refused : goal.returns-then-not-has_register-clause-refused
returns-then-not-has_register-clause-refused c = put_no_register _ _ _ _ _ (sym c.if-not-has_register.ensures)

pub returns-in_err-at-clause-refused : goal.returns-in_err-at-clause-refused
returns-in_err-at-clause-refused c =
    let p = err_from_is_err_and c.from_residual.result c.from_residual.ensures.1 in
    rw (p.1, p.2) (put_unnamed _ _ _ _ _ _ (sym c.if-not-has_register.ensures) (rw c.register.ensures at c.in_err-at.ensures.refused))

pub returns-then-is_reference-clause-refused : goal.returns-then-is_reference-clause-refused
returns-then-is_reference-clause-refused c = let slot = rw c.register.ensures at c.in_ok-at.ensures.slot in
    put_reference _ _ _ _ _ c.in_ok-at.kind (sym c.if-not-has_register.ensures) slot.0 slot.1 (sym c.if-is_reference.ensures)

pub returns-then-not-holds-clause-refused : goal.returns-then-not-holds-clause-refused
returns-then-not-holds-clause-refused c = let slot = rw c.register.ensures at c.in_ok-at.ensures.slot in
    put_range _ _ _ _ _ c.in_ok-at.kind (sym c.if-not-has_register.ensures) slot.0 slot.1 (sym c.if-is_reference.ensures) (sym c.if-not-holds.ensures)

pub returns-clause-accepted : goal.returns-clause-accepted
returns-clause-accepted c = let slot = rw c.register.ensures at c.in_ok-at.ensures.slot in
    put_of_value_accepted _ _ _ _ _ c.in_ok-at.kind (sym c.if-not-has_register.ensures) slot.0 slot.1 (sym c.if-is_reference.ensures) (sym c.if-not-holds.ensures)
