use Rattle.std.proofs.Common.{sym, ◌∙◌}
use Rattle.heap_class.specs.declared.Kind.TheVariants as kinds
use Rattle.hprof_lines.specs.Objects.{names_object}
use Rattle.hprof_lines.proofs.AnyNamed.{any_next, any_found, any_nowhere}
use Rattle.hprof_lines.proofs.objects.any_names_object.Goals as goal

pub loop-value-preserved : goal.loop-value-preserved
loop-value-preserved c =
    any_next names_object c.args.values.now c.loop-value.value-index (record { slot = 0; kind = kinds.Object; value = 0 }) _ c.loop-value-test.true (sym c.names_object.ensures ∙ c.if-names_object.false) c.loop-value.invariant

pub returns-then-names_object : goal.returns-then-names_object
returns-then-names_object c =
    any_found names_object c.args.values.now c.loop-value.value-index (record { slot = 0; kind = kinds.Object; value = 0 }) _ c.loop-value-test.true (sym c.names_object.ensures ∙ c.if-names_object.true) c.loop-value.invariant

pub returns : goal.returns
returns c = any_nowhere names_object c.args.values.now c.loop-value.value-index _ c.loop-value-test.false c.loop-value.invariant
