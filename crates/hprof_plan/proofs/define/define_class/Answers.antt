use Rattle.std.proofs.Common.{arith}
use Rattle.heap_class.specs.Classes.{instance_class}
use Rattle.hprof_plan.proofs.ClassEvents.{class_has_line}
use Rattle.hprof_plan.proofs.DefinedClasses.{given_for, next_is, defined_and, with_name}
use Rattle.hprof_plan.proofs.NotRefused.{memory_only, not_refused}
use Rattle.hprof_plan.proofs.define.define_class.Goals as goal

pub give_name-requires : goal.give_name-requires
give_name-requires c = given_for c.args.limits c.args.defined.now _ c.requires.state c.len-number.ensures.value

pub push-requires : goal.push-requires
push-requires c = class_has_line c.args.limits c.args.defined.now.classes _ c.args.sup c.args.fields (omega (arith, c.len-number.ensures.limit)) c.in-Ok.ensures.answered

pub returns-in_ok-push-in-Ok-clause-defined : goal.returns-in_ok-push-in-Ok-clause-defined
returns-in_ok-push-in-Ok-clause-defined c =
    defined_and c.args.limits c.args.defined.now _ (instance_class c.in_ok-given.given c.args.sup c.args.fields) c.args.name.now c.requires.state
    (next_is c.args.limits c.args.defined.now _ c.args.name.now _ c.requires.state c.len-number.ensures.value c.in_ok-given.ensures.name)
    c.in-Ok.ensures.answered c.in-Ok.ensures.defined c.in_ok-push-in-Ok.ensures.done c.in_ok-given.ensures.names

pub returns-in_ok-push-in-Ok-clause-class : goal.returns-in_ok-push-in-Ok-clause-class
returns-in_ok-push-in-Ok-clause-class c =
    with_name (λ n. instance_class n c.args.sup c.args.fields) c.args.defined.now.classes _ _ _
    (next_is c.args.limits c.args.defined.now _ c.args.name.now _ c.requires.state c.len-number.ensures.value c.in_ok-given.ensures.name)
    c.in-Ok.ensures.defined

pub memory_error-requires : goal.memory_error-requires
memory_error-requires c =
    memory_only _ _
    (not_refused c.args.limits c.args.defined.now.classes (instance_class c.in_ok-given.given c.args.sup c.args.fields) c.args.name.now c.requires.long (omega (arith, c.len-number.ensures.limit)) c.requires.room c.requires.state.given
    (next_is c.args.limits c.args.defined.now _ c.args.name.now _ c.requires.state c.len-number.ensures.value c.in_ok-given.ensures.name)
    c.requires.super_is c.requires.right c.requires.slots)
    c.in-Err.ensures.answered
