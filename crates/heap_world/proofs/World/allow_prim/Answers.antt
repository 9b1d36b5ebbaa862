use Rattle.std.proofs.Common.{◌<◌, sym, subst, arith}
use Rattle.heap_world.specs.State.{HeapState}
use Rattle.heap_world.proofs.CreationEvents.{prim_no_register, prim_reference, prim_allowed, prim_too_large}
use Rattle.heap_world.proofs.World.allow_prim.Goals as goal

pub returns-then-not-has_register-clause-refused : goal.returns-then-not-has_register-clause-refused
returns-then-not-has_register-clause-refused c = prim_no_register _ _ _ _ _ (sym c.if-not-has_register.ensures)

pub returns-then-is_reference-clause-refused : goal.returns-then-is_reference-clause-refused
returns-then-is_reference-clause-refused c = prim_reference _ _ _ _ _ (sym c.if-not-has_register.ensures) (sym c.if-is_reference.ensures)

pub returns-then-len-most-clause-refused : goal.returns-then-len-most-clause-refused
returns-then-len-most-clause-refused c = prim_too_large _ _ _ _ _ (sym c.if-not-has_register.ensures) (sym c.if-is_reference.ensures) (subst (λ (v : HeapState). v.limits.elements < c.args.len) c.self.view_is c.if-len-most.true)

pub returns-clause-allowed : goal.returns-clause-allowed
returns-clause-allowed c =
    prim_allowed _ _ _ _ _ _ _ c.self.invariant c.self.view_is (sym c.if-not-has_register.ensures) (sym c.if-is_reference.ensures) (omega (arith, c.if-len-most.false))
