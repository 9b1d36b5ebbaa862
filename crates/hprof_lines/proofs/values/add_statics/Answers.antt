use Rattle.std.proofs.Common.{[]}
use Rattle.std.proofs.lemmas.List.{drop_all}
use Rattle.heap_class.specs.declared.Kind.TheVariants as kinds
use Rattle.hprof_lines.proofs.MoreValues.{one_static, no_statics}
use Rattle.hprof_lines.proofs.values.add_statics.Goals as goal

pub loop-i-preserved : goal.loop-i-preserved
loop-i-preserved c =
    rw (c.in_ok-push.ensures.items, c.number_in-value.ensures)
    (one_static c.loop-i.i c.args.fields.now (record { name = 0; kind = kinds.Object; value = record { ref_ptr = (0, 0); now = [] } }) c.loop-i.slots.items _ c.loop-i-test.true c.loop-i.invariant)

pub returns : goal.returns
returns c = no_statics c.loop-i.i c.args.fields.now c.loop-i.slots.items _ (drop_all c.loop-i.i c.args.fields.now c.loop-i-test.false) c.loop-i.invariant
