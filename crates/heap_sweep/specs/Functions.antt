-- For proofs: all functions of this crate, opened at once, for facts by computation.
use Rattle.heap_sweep.specs.Sweep.{dead_cells, has_live, sweep_refusal, swept_region, is_emptied, dead_at, swept, copies_dead, reclaimed, unswept_region, unswept}
use Rattle.heap_sweep.specs.Cells.{cleared}

-- nothing of its own: to unfold it is to unfold the functions above
unfoldable pub sweep_functions : Unit {0}
unfolding dead_cells has_live sweep_refusal swept_region is_emptied dead_at swept copies_dead reclaimed unswept_region unswept cleared
sweep_functions = tt
