use Rattle.std.proofs.Common.{◌≡◌, false, sym, subst}
use Rattle.heap_class.specs.Classes.{is_instance_class}
use Rattle.heap_world.specs.State.{HeapState}
use Rattle.heap_world.proofs.CreationEvents.{new_wrong_kind}
use Rattle.heap_world.proofs.World.instance_len.Goals as goal

pub returns-then-not-is_instance-clause-refused : goal.returns-then-not-is_instance-clause-refused
returns-then-not-is_instance-clause-refused c =
    new_wrong_kind _ _ _ _ c.in_ok-allow_class.ensures.register c.in_ok-allow_class.ensures.class
    (subst (λ (v : HeapState). is_instance_class v.classes c.args.class ≡ false) c.self.view_is (sym c.if-not-is_instance.ensures))
