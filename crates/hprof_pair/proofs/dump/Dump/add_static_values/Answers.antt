use Rattle.std.proofs.Common.{◌≡◌, ◌≤◌, List, [], ◌++◌, Option, length, sym, ap, ◌∙◌, arith}
use Rattle.std.specs.Option.{option_map_or}
use Rattle.std.proofs.lemmas.List.{append-nil}
use Rattle.std.proofs.lemmas.Option.{slice_get_past}
use Rattle.hprof_reader.specs.declared.fields.StaticField.{StaticField}
use Rattle.hprof_plan.specs.declared.planning.Statics.{Statics}
use Rattle.hprof_lines.specs.Values.{statics_from}
use Rattle.hprof_lines.specs.declared.values.SlotValue.{SlotValue}
use Rattle.hprof_pair.proofs.dump.Dump.add_static_values.Goals as goal

none_more : (values : List SlotValue) (fields : List StaticField) → fields ≡ [] → values ≡ values ++ statics_from 0 fields
unfolding statics_from
none_more values fields none = sym (append-nil values) ∙ ap (λ (fs : List StaticField). values ++ statics_from 0 fs) (sym none)

pub returns-in-None : goal.returns-in-None
returns-in-None c =
    let past : length c.args.self.now.all.plan.now.statics.items ≤ c.args.n = omega (arith, ap length c.as_slice.ensures.value, c.in-None.ensures.lookup.3) in
    none_more _ _ (ap (λ (o : Option Statics). option_map_or (λ (s : Statics). s.fields.items) o []) (slice_get_past c.args.self.now.all.plan.now.statics.items c.args.n past))
