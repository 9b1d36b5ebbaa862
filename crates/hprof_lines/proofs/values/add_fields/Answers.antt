use Rattle.std.proofs.lemmas.List.{drop_all}
use Rattle.heap_class.specs.declared.Kind.TheVariants as kinds
use Rattle.hprof_lines.proofs.MoreValues.{one_field, no_fields}
use Rattle.hprof_lines.proofs.values.add_fields.Goals as goal

pub loop-i-preserved : goal.loop-i-preserved
loop-i-preserved c =
    rw (c.in_ok-add_if_kept.ensures, c.number_at-value.ensures.rest, c.number_at-value.ensures.number)
    (one_field c.args.ids c.args.kept c.args.base c.loop-i.i c.args.kinds.now kinds.Object c.loop-i.rest.now c.loop-i.slots.items _ _ c.loop-i-test.true c.loop-i.invariant)

pub returns-clause-slots : goal.returns-clause-slots
returns-clause-slots c =
    (no_fields c.args.ids c.args.kept c.args.base c.loop-i.i c.args.kinds.now c.loop-i.rest.now c.loop-i.slots.items _ _ (drop_all c.loop-i.i c.args.kinds.now c.loop-i-test.false) c.loop-i.invariant).0

pub returns-clause-rest : goal.returns-clause-rest
returns-clause-rest c =
    (no_fields c.args.ids c.args.kept c.args.base c.loop-i.i c.args.kinds.now c.loop-i.rest.now c.loop-i.slots.items _ _ (drop_all c.loop-i.i c.args.kinds.now c.loop-i-test.false) c.loop-i.invariant).1
