use Rattle.std.proofs.Common.{◌≡◌, ◌<◌, List, length, sym, subst}
use Rattle.std.specs.Prelude.{IfSome, slice_get}
use Rattle.heap_class.specs.declared.Field.{Field}
use Rattle.heap_class.proofs.Readers.{fields_there}
use Rattle.heap_class.proofs.Front.{taken_classes_rejoin_dropped, same_fields}
use Rattle.heap_class.proofs.first_classes.FirstClasses.field_kind.Goals as goal

pub field_kind-requires : goal.field_kind-requires
field_kind-requires c = subst (λ (l : List Field). c.args.field < length l) (same_fields _ _ _ (taken_classes_rejoin_dropped _ _ _ c.self.view_is) _ (fields_there _ _ _ c.requires)) c.requires

pub returns : goal.returns
returns c =
    subst (λ (l : List Field). IfSome (slice_get l c.args.field) (λ f. c.field_kind.result ≡ f.kind)) (sym (same_fields _ _ _ (taken_classes_rejoin_dropped _ _ _ c.self.view_is) _ (fields_there _ _ _ c.requires))) c.field_kind.ensures
