use Rattle.std.proofs.Common.{arith, ap, ◌∙◌, List, ℕ}
use Rattle.std.specs.Map.{keys_of}
use Rattle.heap_class.specs.Classes.{array_class}
use Rattle.indexmap.proofs.CallerLemmas.{insert_entry-new}
use Rattle.hprof_plan.specs.Accepted.{next_name}
use Rattle.hprof_plan.proofs.PlannedClasses.{array_is, ids_and, no_kinds, planned_and}
use Rattle.hprof_plan.proofs.dump_classes.plan_array_class.Goals as goal

pub define_array_class-requires : goal.define_array_class-requires
define_array_class-requires c = record {
  limits = c.requires.limits.limits_are;
  long = c.requires.limits.long;
  state = c.requires.state.defined;
  room = omega (arith, c.requires.few, c.requires.limits.enough);
}

pub returns-clause-planned : goal.returns-clause-planned
returns-clause-planned c =
    let f = c.args.found.now in
    let classes = c.args.planned.now.defined.classes in
    planned_and c.args.limits f c.args.room c.args.planned.now _ c.args.id _ c.new.result c.requires.state c.in_ok-define_array_class.ensures.defined c.in_ok-define_array_class.ensures.class
    (ap (λ (n : List ℕ). array_class (next_name c.args.limits classes n)) c.class_name_at.ensures
    ∙ array_is c.args.limits f (keys_of c.args.planned.now.kinds.entries) c.args.id classes c.requires.state.classes c.requires.array)
    (c.in_ok-insert.ensures.entries ∙ insert_entry-new _ c.args.planned.now.kinds c.args.id c.new.result c.requires.new)
    (c.new.ensures.items ∙ no_kinds f c.args.id c.requires.array)
    c.requires.few

pub returns-clause-numbers : goal.returns-clause-numbers
returns-clause-numbers c = ids_and _ _ c.args.id c.new.result (c.in_ok-insert.ensures.entries ∙ insert_entry-new _ c.args.planned.now.kinds c.args.id c.new.result c.requires.new)
