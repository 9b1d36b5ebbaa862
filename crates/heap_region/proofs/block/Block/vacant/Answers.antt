use Rattle.std.proofs.Common.{replicate, sym, ap, ◌∙◌, arith}
use Rattle.heap_region.proofs.BlockSizes.{block_of_region, block_of_run}
use Rattle.heap_region.proofs.block.Block.vacant.Goals as goal

pub returns-then-cell_size-gt1024 : goal.returns-then-cell_size-gt1024
returns-then-cell_size-gt1024 c = (c.in_ok-large.ensures.0 ∙ ap (λ n. replicate n 0) (sym (block_of_run c.args.cell_size (omega arith)).0), c.in_ok-large.ensures.1)

pub returns : goal.returns
returns c = (c.in_ok-region.ensures.0 ∙ ap (λ n. replicate n 0) (sym (block_of_region c.args.cell_size (omega arith)).0), c.in_ok-region.ensures.1)
