use Rattle.std.proofs.Common.{◌≤◌, length, sym, ap, arith}
use Rattle.heap_world.specs.State.{HeapState}
use Rattle.heap_world.proofs.CreationEvents.{new_no_register, new_no_class, array_no_register, array_no_class}
use Rattle.heap_world.proofs.World.allow_class.Goals as goal

pub returns-then-not-has_register-clause-instance : goal.returns-then-not-has_register-clause-instance
returns-then-not-has_register-clause-instance c = new_no_register _ _ _ _ (sym c.if-not-has_register.ensures)

pub returns-then-not-has_register-clause-array : goal.returns-then-not-has_register-clause-array
returns-then-not-has_register-clause-array c = λ len. array_no_register _ _ _ _ _ (sym c.if-not-has_register.ensures)

pub returns-then-class-len-clause-instance : goal.returns-then-class-len-clause-instance
returns-then-class-len-clause-instance c =
    let past : length c.args.self.now.classes ≤ c.args.class = omega (arith, c.if-class-len.true, c.len.ensures.value, ap (λ (v : HeapState). length v.classes) c.self.view_is) in
    new_no_class _ _ _ _ (sym c.if-not-has_register.ensures) past

pub returns-then-class-len-clause-array : goal.returns-then-class-len-clause-array
returns-then-class-len-clause-array c =
    let past : length c.args.self.now.classes ≤ c.args.class = omega (arith, c.if-class-len.true, c.len.ensures.value, ap (λ (v : HeapState). length v.classes) c.self.view_is) in
    λ len. array_no_class _ _ _ _ _ (sym c.if-not-has_register.ensures) past
