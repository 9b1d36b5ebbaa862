use Rattle.std.proofs.Common.{◌≡◌, ◌≤◌, arith, ap, length, map, subst, sym, List, ℕ, ◌∙◌}
use Rattle.std.specs.Map.{keys_of}
use Rattle.heap_class.specs.declared.Field.{Field}
use Rattle.heap_class.specs.Classes.{instance_class}
use Rattle.indexmap.proofs.CallerLemmas.{insert_entry-new}
use Rattle.hprof_reader.specs.declared.fields.OwnField.{OwnField}
use Rattle.hprof_reader.specs.SubRecords.{class_told}
use Rattle.hprof_plan.specs.Accepted.{next_name}
use Rattle.hprof_plan.specs.ClassFields.{own_named}
use Rattle.hprof_plan.specs.Right.{AreRight}
use Rattle.hprof_plan.specs.SessionClasses.{field_room}
use Rattle.hprof_plan.specs.Tables.{names_told}
use Rattle.hprof_plan.proofs.NotRefused.{own_right, length-own_named}
use Rattle.hprof_plan.proofs.PlannedClasses.{ids_and, instance_is, kept_are, kinds_are, planned_and}
use Rattle.hprof_plan.proofs.dump_classes.plan_instance_class.Goals as goal

pub define_class-requires : goal.define_class-requires
define_class-requires c =
    let e = c.from_vec.ensures ∙ c.in_ok-fields.ensures in
    let names = names_told c.args.found.now.names.entries in
    let count : length c.as_slice.result.now ≤ c.room_under.result = omega (arith, c.as_slice.ensures.len, c.truncate.ensures.len, c.min-kept.ensures) in
    record {
      limits = c.requires.limits.limits_are;
      long = c.requires.limits.long;
      state = c.requires.state.defined;
      room = omega (arith, c.requires.few, c.requires.limits.enough);
      super_is = c.super_of-sup.ensures.instance;
      right = subst (λ (fs : List Field). AreRight c.args.limits fs) (sym e) (own_right c.args.limits names c.as_slice.result.now c.requires.limits.long (omega (arith, count, c.room_under.ensures)));
      slots = omega (arith, ap length e, length-own_named c.args.limits names c.as_slice.result.now, count, c.room_under.ensures);
    }

pub returns-clause-planned : goal.returns-clause-planned
returns-clause-planned c =
    let f = c.args.found.now in
    let classes = c.args.planned.now.defined.classes in
    let names = names_told f.names.entries in
    let sup = c.super_of-sup.result in
    let room : c.room_under.result ≡ field_room classes sup = omega (arith, c.room_under.ensures) in
    let own = c.as_slice.ensures.value ∙ c.truncate.ensures.items ∙ kept_are _ c.len.result c.room_under.result _ c.in_ok-own.own.items _ c.min-kept.ensures (omega (arith, c.len.ensures)) room c.in_ok-own.ensures in
    planned_and c.args.limits f c.args.room c.args.planned.now _ c.args.id _ c.in_ok-kinds.kinds c.requires.state c.in_ok-define_class.ensures.defined c.in_ok-define_class.ensures.class
    (ap (λ (n : List ℕ). instance_class (next_name c.args.limits classes n) sup c.from_vec.result) c.class_name_at.ensures
    ∙ instance_is c.args.limits f (keys_of c.args.planned.now.kinds.entries) c.args.id classes (class_told c.args.dump.now) sup c.from_vec.result
    c.requires.state.classes c.requires.instance c.requires.class c.super_of-sup.ensures.number
    (c.from_vec.ensures ∙ c.in_ok-fields.ensures ∙ ap (λ (fs : List OwnField). own_named c.args.limits names fs) own))
    (c.in_ok-insert.ensures.entries ∙ insert_entry-new _ c.args.planned.now.kinds c.args.id c.in_ok-kinds.kinds c.requires.new)
    (c.in_ok-kinds.ensures ∙ ap (map (λ (g : OwnField). g.kind)) (c.deref.ensures.value ∙ c.in_ok-own.ensures) ∙ kinds_are f c.args.id (class_told c.args.dump.now) c.requires.instance c.requires.class)
    c.requires.few

pub returns-clause-numbers : goal.returns-clause-numbers
returns-clause-numbers c =
    ids_and _ _ c.args.id c.in_ok-kinds.kinds (c.in_ok-insert.ensures.entries ∙ insert_entry-new _ c.args.planned.now.kinds c.args.id c.in_ok-kinds.kinds c.requires.new)
