use Rattle.std.proofs.Common.{sym, ◌∙◌, refl}
use Rattle.std.proofs.lemmas.List.{at_drop_all}
use Rattle.heap_pins.specs.KeptCopies.{with_dead}
use Rattle.heap_pins.proofs.AddedCopies.{next_dead_is_put}
use Rattle.heap_pins.proofs.region_copy.put_dead.Goals as goal

pub put-requires-clause-within : goal.put-requires-clause-within
put-requires-clause-within c = (next_dead_is_put c.args.dead.now c.loop-cell.cell-index c.loop-cell-item.result c.loop-cell.copy _ c.loop-cell-test.true c.loop-cell-item.is c.loop-cell.invariant.fit refl).within

pub put-requires-clause-fits : goal.put-requires-clause-fits
put-requires-clause-fits c = (next_dead_is_put c.args.dead.now c.loop-cell.cell-index c.loop-cell-item.result c.loop-cell.copy _ c.loop-cell-test.true c.loop-cell-item.is c.loop-cell.invariant.fit refl).fits

pub loop-cell-preserved : goal.loop-cell-preserved
loop-cell-preserved c =
    let n = next_dead_is_put c.args.dead.now c.loop-cell.cell-index c.loop-cell-item.result c.loop-cell.copy c.put.new.self c.loop-cell-test.true c.loop-cell-item.is c.loop-cell.invariant.fit c.put.ensures in
    record { fit = n.fit; rest = n.rest ∙ c.loop-cell.invariant.rest }

pub returns : goal.returns
unfolding with_dead
returns c = sym (at_drop_all (λ ds. with_dead ds c.loop-cell.copy) c.args.dead.now c.loop-cell.cell-index c.loop-cell-test.false) ∙ c.loop-cell.invariant.rest
