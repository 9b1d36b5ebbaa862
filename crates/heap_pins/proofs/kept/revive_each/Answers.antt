use Rattle.std.proofs.Common.{arith}
use Rattle.heap_pins.proofs.SlotTables.{all_items_are_revived, next_item_is_revived}
use Rattle.heap_pins.proofs.kept.revive_each.Goals as goal

pub loop-i-preserved : goal.loop-i-preserved
loop-i-preserved c =
    let n = next_item_is_revived c.args.kept.now.items c.loop-i.kept.items c.loop-i.i c.index_mut.result.now c.revive_item.new.item (omega (arith, c.loop-i-test.true, c.loop-i.invariant.count, c.loop-i.auto.i-end, c.args.kept.now.ok.0)) c.index_mut.ensures.value c.revive_item.ensures
    c.loop-i.invariant.count c.loop-i.invariant.done c.loop-i.invariant.others in
    record { count = n.count; done = n.done; capacity = c.loop-i.invariant.capacity; others = n.others }

pub returns-clause-items : goal.returns-clause-items
returns-clause-items c = all_items_are_revived c.args.kept.now.items c.loop-i.kept.items c.loop-i.i (omega (arith, c.loop-i-test.false, c.loop-i.invariant.count, c.args.kept.now.ok.0, c.loop-i.auto.i-end)) c.loop-i.invariant.count c.loop-i.invariant.done
