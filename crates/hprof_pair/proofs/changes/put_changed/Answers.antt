use Rattle.heap_class.specs.declared.Kind.TheVariants as kinds
use Rattle.hprof_pair.specs.Pairs.{pair_told}
use Rattle.hprof_pair.proofs.Opened.{one_change, all_changes}
use Rattle.hprof_pair.proofs.changes.put_changed.Goals as goal

pub loop-i-preserved : goal.loop-i-preserved
loop-i-preserved c =
    one_change (pair_told c.args.pair.now) c.args.before.now c.args.values.now c.loop-i.i (record { slot = 0; kind = kinds.Object; value = 0 }) _ _ _ c.loop-i-test.true c.loop-i.invariant (rw c.value_before.ensures at c.in_ok-add_changed.ensures)

pub returns : goal.returns
returns c = all_changes (pair_told c.args.pair.now) c.args.before.now c.args.values.now c.loop-i.i _ _ c.loop-i-test.false c.loop-i.invariant
