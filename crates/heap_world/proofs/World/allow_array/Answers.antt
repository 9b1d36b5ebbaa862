use Rattle.std.proofs.Common.{◌≡◌, ◌<◌, true, false, sym, subst, arith}
use Rattle.heap_class.specs.Classes.{is_array_class}
use Rattle.heap_world.specs.State.{HeapState}
use Rattle.heap_world.proofs.CreationEvents.{array_wrong_kind, array_allowed, array_too_large}
use Rattle.heap_world.proofs.World.allow_array.Goals as goal

pub returns-then-not-is_array-clause-refused : goal.returns-then-not-is_array-clause-refused
returns-then-not-is_array-clause-refused c =
    array_wrong_kind _ _ _ _ _ c.in_ok-allow_class.ensures.register c.in_ok-allow_class.ensures.class
    (subst (λ (v : HeapState). is_array_class v.classes c.args.class ≡ false) c.self.view_is (sym c.if-not-is_array.ensures))

pub returns-then-len-most-clause-refused : goal.returns-then-len-most-clause-refused
returns-then-len-most-clause-refused c = array_too_large _ _ _ _ _ c.in_ok-allow_class.ensures.register
    (subst (λ (v : HeapState). is_array_class v.classes c.args.class ≡ true) c.self.view_is (sym c.if-not-is_array.ensures)) (subst (λ (v : HeapState). v.limits.elements < c.args.len) c.self.view_is c.if-len-most.true)

pub returns-clause-allowed : goal.returns-clause-allowed
returns-clause-allowed c =
    array_allowed _ _ _ _ _ _ _ c.self.invariant c.self.view_is c.in_ok-allow_class.ensures.register
    (subst (λ (v : HeapState). is_array_class v.classes c.args.class ≡ true) c.self.view_is (sym c.if-not-is_array.ensures)) (omega (arith, c.if-len-most.false))
