use Rattle.std.proofs.Common.{sym, ap, ◌∙◌, List, [], ◌∷◌, ◌++◌, ℕ, map, arith}
use Rattle.std.specs.List.{list_any}
use Rattle.std.proofs.lemmas.List.{append-nil}
use Rattle.hprof_reader.specs.declared.fields.StaticField.{StaticField}
use Rattle.hprof_reader.specs.Fields.{StaticTold, static_told}
use Rattle.hprof_plan.specs.Plans.{statics_told}
use Rattle.hprof_plan.specs.SessionClasses.{and_statics, names_object, static_class, statics_in}
use Rattle.hprof_plan.proofs.DefinedClasses.{few_and}
use Rattle.hprof_plan.proofs.PlannedClasses.{any_told, no_room_left, none_named, one_static, statics_none_more, statics_one_more, told_and_one}
use Rattle.hprof_plan.proofs.static_classes.plan_class_statics.Goals as goal

pub returns-then-not-name_object-clause-statics : goal.returns-then-not-name_object-clause-statics
returns-then-not-name_object-clause-statics c =
    let f = c.args.found.now in
    sym (append-nil _)
    ∙ ap (λ (s : List (ℕ × List StaticTold)). statics_told c.args.statics.now.items ++ s)
    (sym (none_named f c.args.room c.args.defined.now.classes c.args.id
    (any_told f c.args.id _ c.in_ok-fields.ensures.value ∙ ap (list_any (λ (s : StaticField). names_object f (static_told s))) (sym c.deref.ensures.value) ∙ sym c.if-not-name_object.ensures)))

pub returns-then-not-name_object-clause-classes : goal.returns-then-not-name_object-clause-classes
returns-then-not-name_object-clause-classes c =
    let f = c.args.found.now in
    sym (statics_none_more c.args.limits f c.args.defined.now.classes)
    ∙ ap (and_statics c.args.limits f c.args.defined.now.classes)
    (sym (none_named f c.args.room c.args.defined.now.classes c.args.id
    (any_told f c.args.id _ c.in_ok-fields.ensures.value ∙ ap (list_any (λ (s : StaticField). names_object f (static_told s))) (sym c.deref.ensures.value) ∙ sym c.if-not-name_object.ensures)))

pub returns-then-len-room-clause-statics : goal.returns-then-len-room-clause-statics
returns-then-len-room-clause-statics c =
    sym (append-nil _)
    ∙ ap (λ (s : List (ℕ × List StaticTold)). statics_told c.args.statics.now.items ++ s)
    (sym (no_room_left c.args.found.now c.args.room c.args.defined.now.classes c.args.id (omega (arith, c.if-len-room.true, c.len.ensures.value))))

pub returns-then-len-room-clause-classes : goal.returns-then-len-room-clause-classes
returns-then-len-room-clause-classes c =
    sym (statics_none_more c.args.limits c.args.found.now c.args.defined.now.classes)
    ∙ ap (and_statics c.args.limits c.args.found.now c.args.defined.now.classes)
    (sym (no_room_left c.args.found.now c.args.room c.args.defined.now.classes c.args.id (omega (arith, c.if-len-room.true, c.len.ensures.value))))

pub returns-clause-few : goal.returns-clause-few
returns-clause-few c =
    few_and c.args.defined.now.classes _ _ c.args.room (omega (arith, c.if-len-room.false, c.len.ensures.value)) c.in_ok-plan_static_class.ensures.class

pub returns-clause-statics : goal.returns-clause-statics
returns-clause-statics c =
    let f = c.args.found.now in
    let named = any_told f c.args.id _ c.in_ok-fields.ensures.value ∙ ap (list_any (λ (s : StaticField). names_object f (static_told s))) (sym c.deref.ensures.value) ∙ sym c.if-not-name_object.ensures in
    ap statics_told c.in_ok-push.ensures.items
    ∙ told_and_one c.args.statics.now.items _
    ∙ ap (λ (v : List StaticTold). statics_told c.args.statics.now.items ++ (c.args.id, v) ∷ []) c.in_ok-fields.ensures.value
    ∙ ap (λ (s : List (ℕ × List StaticTold)). statics_told c.args.statics.now.items ++ s)
    (sym (one_static f c.args.room c.args.defined.now.classes c.args.id named (omega (arith, c.if-len-room.false, c.len.ensures.value))))

pub returns-clause-classes : goal.returns-clause-classes
returns-clause-classes c =
    let f = c.args.found.now in
    let classes = c.args.defined.now.classes in
    let named = any_told f c.args.id _ c.in_ok-fields.ensures.value ∙ ap (list_any (λ (s : StaticField). names_object f (static_told s))) (sym c.deref.ensures.value) ∙ sym c.if-not-name_object.ensures in
    c.in_ok-plan_static_class.ensures.class
    ∙ ap (λ (v : List StaticTold). classes ++ static_class c.args.limits f classes (c.args.id, v) ∷ []) (ap (map static_told) c.deref-2.ensures.value ∙ c.in_ok-fields.ensures.value)
    ∙ sym (statics_one_more c.args.limits f classes (c.args.id, statics_in f c.args.id))
    ∙ ap (and_statics c.args.limits f classes) (sym (one_static f c.args.room classes c.args.id named (omega (arith, c.if-len-room.false, c.len.ensures.value))))
