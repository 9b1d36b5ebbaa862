use Rattle.std.proofs.Common.{◌<◌, List, length, subst}
use Rattle.heap_class.specs.declared.Field.{Field}
use Rattle.heap_class.proofs.Readers.{fields_there}
use Rattle.heap_class.proofs.Front.{taken_classes_rejoin_dropped, same_fields, same_field_id}
use Rattle.heap_class.proofs.first_classes.FirstClasses.field_name_id.Goals as goal

pub field_name_id-requires : goal.field_name_id-requires
field_name_id-requires c = subst (λ (l : List Field). c.args.field < length l) (same_fields _ _ _ (taken_classes_rejoin_dropped _ _ _ c.self.view_is) _ (fields_there _ _ _ c.requires)) c.requires

pub returns : goal.returns
returns c = same_field_id _ _ _ (taken_classes_rejoin_dropped _ _ _ c.self.view_is) _ (fields_there _ _ _ c.requires) c.args.field c.field_name_id.result c.field_name_id.ensures
