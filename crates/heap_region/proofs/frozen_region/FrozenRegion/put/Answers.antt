use Rattle.heap_region.proofs.RegionCopies.{laid_filled}
use Rattle.std.proofs.Common.{arith}
use Rattle.heap_region.proofs.BlockSizes.{block_words_at_most_heap}
use Rattle.heap_region.proofs.Cells.{shown_cell_lies_within_words}
use Rattle.heap_region.proofs.frozen_region.FrozenRegion.put.Goals as goal

pub overflow_mul-start : goal.overflow_mul-start
overflow_mul-start c =
    let i = c.self.inside in
    omega (arith, (shown_cell_lies_within_words i.cell_size i.block.words i.block.headers c.args.cell c.self.invariant.covers (rw (← c.self.view_is) at c.requires.within)).2, block_words_at_most_heap i.cell_size c.self.invariant.sized)

pub invariant_of-self : goal.invariant_of-self
invariant_of-self c = rw (c.put_object.ensures.headers, c.put_object.ensures.words) (laid_filled _ _ _ c.self.invariant _ c.self.view_is c.args.cell c.args.object.now c.requires.within c.requires.fits).0

pub returns : goal.returns
returns c = rw (c.put_object.ensures.headers, c.put_object.ensures.words) (laid_filled _ _ _ c.self.invariant _ c.self.view_is c.args.cell c.args.object.now c.requires.within c.requires.fits).1
