use Rattle.heap_class.specs.declared.Kind.TheVariants as kinds
use Rattle.hprof_lines.proofs.Puttings.{each_more}
use Rattle.hprof_pair.specs.Changes.{slot_events}
use Rattle.hprof_pair.specs.Pairs.{pair_told}
use Rattle.hprof_pair.proofs.changes.push_each.Goals as goal

pub loop-value-preserved : goal.loop-value-preserved
loop-value-preserved c =
    each_more (slot_events (pair_told c.args.pair.now)) c.args.values.now c.loop-value.value-index (record { slot = 0; kind = kinds.Object; value = 0 }) c.args.lines.now c.loop-value.lines _ c.loop-value-test.true c.loop-value.invariant c.in_ok-push_slot.ensures
