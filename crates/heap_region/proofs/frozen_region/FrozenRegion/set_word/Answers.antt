use Rattle.std.proofs.Common.{arith}
use Rattle.heap_region.proofs.BlockSizes.{block_words_at_most_heap}
use Rattle.heap_region.proofs.Cells.{slot_lies}
use Rattle.heap_region.proofs.RegionCopies.{laid_slot}
use Rattle.heap_region.proofs.frozen_region.FrozenRegion.set_word.Goals as goal

pub overflow_mul-at : goal.overflow_mul-at
overflow_mul-at c =
    let lies = slot_lies _ _ _ _ _ (rw (← c.self.view_is) at c.requires) in
    omega (arith, lies.1, c.self.invariant.words, block_words_at_most_heap _ c.self.invariant.sized)

pub overflow_add-at : goal.overflow_add-at
overflow_add-at c =
    let lies = slot_lies _ _ _ _ _ (rw (← c.self.view_is) at c.requires) in
    omega (arith, lies.1, c.self.invariant.words, block_words_at_most_heap _ c.self.invariant.sized)

pub invariant_of-self : goal.invariant_of-self
invariant_of-self c =
    let i = c.self.inside in
    rw c.set_word.ensures (laid_slot i.cell_size i.block.words i.block.headers c.self.invariant c.args.cell c.args.slot c.args.value (rw (← c.self.view_is) at c.requires)).0

pub returns : goal.returns
returns c =
    let i = c.self.inside in
    rw (← c.self.view_is, c.set_word.ensures) (laid_slot i.cell_size i.block.words i.block.headers c.self.invariant c.args.cell c.args.slot c.args.value (rw (← c.self.view_is) at c.requires)).1
