use Rattle.std.proofs.Common.{◌∙◌}
use Rattle.heap_region.proofs.TurnedCopies.{turned_headers_stay_laid, turned_copy_shown}
use Rattle.heap_region.proofs.frozen_region.FrozenRegion.turn.Goals as goal

pub invariant_of-self : goal.invariant_of-self
invariant_of-self c =
    let i = c.self.inside in
    rw (c.turn.ensures) (turned_headers_stay_laid i.cell_size i.block.words i.block.headers c.self.invariant)

pub returns : goal.returns
returns c u is =
    let i = c.self.inside in
    rw (c.turn.ensures) (turned_copy_shown i.cell_size i.block.words i.block.headers u (c.self.view_is ∙ is))
