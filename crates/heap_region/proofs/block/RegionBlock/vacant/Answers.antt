use Rattle.heap_region.proofs.block.RegionBlock.vacant.Goals as goal

pub returns-then-count-eq-CELLS : goal.returns-then-count-eq-CELLS
returns-then-count-eq-CELLS c = rw c.if-count-eq-CELLS.true c.full.ensures
