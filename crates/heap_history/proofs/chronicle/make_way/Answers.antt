use Rattle.std.proofs.Common.{arith}
use Rattle.heap_history.proofs.Rolls.{way_as_is, way_by_roll}
use Rattle.heap_history.proofs.chronicle.make_way.Goals as goal

pub returns-then-len-eq-BLOCK_LIMIT-clause-kept : goal.returns-then-len-eq-BLOCK_LIMIT-clause-kept
returns-then-len-eq-BLOCK_LIMIT-clause-kept c = λ rolls es k more.
    way_by_roll c.args.older.now c.args.newer.now c.roll.new.older c.roll.new.newer c.args.dropped c.roll.result rolls es (omega (arith, c.len.ensures, c.if-len-eq-BLOCK_LIMIT.true)) c.roll.ensures.older c.roll.ensures.newer c.roll.ensures.dropped k more

pub returns-else-len-eq-BLOCK_LIMIT-clause-kept : goal.returns-else-len-eq-BLOCK_LIMIT-clause-kept
returns-else-len-eq-BLOCK_LIMIT-clause-kept c = λ rolls es k more.
    way_as_is c.args.older.now c.args.newer.now c.args.dropped rolls es (omega (arith, k.0.newer_fits, c.len.ensures, c.if-len-eq-BLOCK_LIMIT.false)) k
