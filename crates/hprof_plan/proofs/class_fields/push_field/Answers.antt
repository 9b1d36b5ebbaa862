use Rattle.std.proofs.Common.{List, ap, arith, ◌∙◌}
use Rattle.std.specs.List.{list_any}
use Rattle.std.specs.Str.{bytes_eq}
use Rattle.heap_class.specs.declared.Field.{Field}
use Rattle.hprof_plan.proofs.FieldNames.{field_added}
use Rattle.hprof_plan.proofs.class_fields.push_field.Goals as goal

pub returns : goal.returns
returns c = field_added c.args.limits c.args.fields.now.items c.args.name.now c.args.kind _ _ _ _ (c.has_name-is_given.ensures ∙ ap (λ (xs : List Field). list_any (λ (f : Field). bytes_eq c.args.name.now f.name) xs) c.deref.ensures.value) (omega (arith, c.len.ensures)) c.in_ok-name.ensures c.in_ok-push.ensures.items
