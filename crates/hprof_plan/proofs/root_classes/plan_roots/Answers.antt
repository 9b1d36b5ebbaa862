use Rattle.std.proofs.Common.{◌≡◌, length, sym, ap, ◌∙◌, refl, arith}
use Rattle.std.proofs.lemmas.List.{take_all}
use Rattle.heap_class.specs.Classes.{array_class}
use Rattle.hprof_plan.specs.Accepted.{next_name}
use Rattle.hprof_plan.specs.SessionClasses.{and_arrays, root_names}
use Rattle.hprof_plan.proofs.DefinedClasses.{one_longer}
use Rattle.hprof_plan.proofs.PlannedClasses.{arrays_none, next_array}
use Rattle.hprof_plan.proofs.root_classes.plan_roots.Goals as goal

pub loop-k-init : goal.loop-k-init
loop-k-init c = record { defined = c.requires.state; counted = omega arith; classes = sym (arrays_none c.args.limits c.args.defined.now.classes) }

pub loop-k-preserved : goal.loop-k-preserved
loop-k-preserved c = record {
  defined = c.in_ok-define_array_class.ensures.defined;
  counted = omega (arith, c.loop-k.invariant.counted, ap length c.in_ok-define_array_class.ensures.class, one_longer c.loop-k.defined.classes (array_class (next_name c.args.limits c.loop-k.defined.classes c.root_name.result.now)));
  classes =
      next_array c.args.limits c.args.defined.now.classes c.loop-k.defined.classes _ root_names c.loop-k.k c.root_name.result.now c.root_name.ensures
      c.loop-k.invariant.classes c.in_ok-define_array_class.ensures.class;
}

pub returns-clause-classes : goal.returns-clause-classes
returns-clause-classes c =
    let ten : length root_names ≡ 10 = refl in
    c.loop-k.invariant.classes ∙ ap (and_arrays c.args.limits c.args.defined.now.classes) (take_all c.loop-k.k root_names (omega (arith, c.loop-k-test.false, ten)))
