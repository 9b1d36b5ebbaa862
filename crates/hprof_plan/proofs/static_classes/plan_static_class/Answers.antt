use Rattle.std.proofs.Common.{arith, ap, length, map, subst, sym, refl, List, ◌∙◌}
use Rattle.std.proofs.lemmas.List.{length-map}
use Rattle.heap_class.specs.declared.Field.{Field}
use Rattle.hprof_reader.specs.Fields.{static_told}
use Rattle.hprof_plan.specs.Right.{AreRight}
use Rattle.hprof_plan.specs.Tables.{names_told}
use Rattle.hprof_plan.proofs.NotRefused.{static_right, length-static_named}
use Rattle.hprof_plan.proofs.static_classes.plan_static_class.Goals as goal

pub define_class-requires : goal.define_class-requires
define_class-requires c =
    let e = c.from_vec.ensures ∙ c.in_ok-fields.ensures in
    let names = names_told c.args.found.now.names.entries in
    record {
      limits = c.requires.limits;
      long = c.requires.long;
      state = c.requires.state;
      room = c.requires.room;
      super_is = refl;
      right = subst (λ (fs : List Field). AreRight c.args.limits fs) (sym e) (static_right c.args.limits names (map static_told c.args.statics.now) c.requires.long (omega (arith, c.requires.few, length-map c.args.statics.now static_told)));
      slots = omega (arith, ap length e, length-static_named c.args.limits names (map static_told c.args.statics.now), c.requires.few, length-map c.args.statics.now static_told);
    }
