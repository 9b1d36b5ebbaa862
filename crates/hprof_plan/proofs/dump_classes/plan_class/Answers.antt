use Rattle.std.proofs.Common.{sym, ap, ◌∙◌, arith, is_some}
use Rattle.std.specs.Prelude.{nat_eq}
use Rattle.std.specs.Map.{keys_of}
use Rattle.std.proofs.lemmas.Map.Entries.{length-keys_of}
use Rattle.std.proofs.lemmas.Map.Made.{is_some-lookup}
use Rattle.hprof_plan.specs.Tables.{classes_told}
use Rattle.hprof_plan.proofs.DefinedClasses.{not_some_is_none}
use Rattle.hprof_plan.proofs.Numbering.{class_found, class_lacking, next_number, no_number_if_full, no_number_if_lacking, no_number_if_numbered}
use Rattle.hprof_plan.proofs.dump_classes.plan_class.Goals as goal

pub plan_new-requires-clause-new : goal.plan_new-requires-clause-new
plan_new-requires-clause-new c = not_some_is_none _ c.if-contains_key.ensures

pub plan_new-requires-clause-class : goal.plan_new-requires-clause-class
plan_new-requires-clause-class c = class_found c.args.found.now.classes.entries c.args.id c.in-Some.dump.now c.in-Some.ensures.value

pub returns-then-contains_key-clause-numbers : goal.returns-then-contains_key-clause-numbers
returns-then-contains_key-clause-numbers c =
    sym (no_number_if_numbered c.args.room (classes_told c.args.found.now.classes.entries) (keys_of c.args.planned.now.kinds.entries) c.args.id
    (sym (is_some-lookup (nat_eq c.args.id) c.args.planned.now.kinds.entries) ∙ sym c.if-contains_key.ensures))

pub returns-then-len-room-clause-numbers : goal.returns-then-len-room-clause-numbers
returns-then-len-room-clause-numbers c =
    sym (no_number_if_full c.args.room (classes_told c.args.found.now.classes.entries) (keys_of c.args.planned.now.kinds.entries) c.args.id
    (omega (arith, c.if-len-room.true, c.len.ensures.value, c.requires.state.counted, length-keys_of c.args.planned.now.kinds.entries)))

pub returns-in-Some-clause-numbers : goal.returns-in-Some-clause-numbers
returns-in-Some-clause-numbers c =
    rw (next_number c.args.room (classes_told c.args.found.now.classes.entries) (keys_of c.args.planned.now.kinds.entries) c.args.id
    (omega (arith, c.if-len-room.false, c.len.ensures.value, c.requires.state.counted, length-keys_of c.args.planned.now.kinds.entries))
    (ap is_some (class_found c.args.found.now.classes.entries c.args.id c.in-Some.dump.now c.in-Some.ensures.value))
    (sym (is_some-lookup (nat_eq c.args.id) c.args.planned.now.kinds.entries) ∙ sym c.if-contains_key.ensures))
    c.plan_new.ensures.numbers

pub returns-in-None-clause-numbers : goal.returns-in-None-clause-numbers
returns-in-None-clause-numbers c =
    sym (no_number_if_lacking c.args.room (classes_told c.args.found.now.classes.entries) (keys_of c.args.planned.now.kinds.entries) c.args.id
    (ap is_some (class_lacking c.args.found.now.classes.entries c.args.id c.in-None.ensures.value)))
