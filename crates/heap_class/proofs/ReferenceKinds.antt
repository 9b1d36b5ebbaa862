-- The one kind whose slots hold references.
use Rattle.std.proofs.Common.{◌≡◌, ◌≢◌, true, false, arith}
use Rattle.heap_class.specs.declared.Kind.{Kind}
use Rattle.heap_class.specs.Kinds.{is_reference}

pub object_kind : (k : Kind) → is_reference k ≡ true → k ≡ Kind.Object
object_kind k h = grind arith

pub kind_is_not_a_reference : (k : Kind) → k ≢ Kind.Object → is_reference k ≡ false
kind_is_not_a_reference k h = grind arith
