use Rattle.heap_region.proofs.TurnedRegions.{turned_back_sound, turned_back_shown}
use Rattle.heap_region.proofs.storage.Storage.turn_back.Goals as goal

pub invariant_of-self : goal.invariant_of-self
invariant_of-self c =
    let i = c.self.inside in
    rw (c.turn_back.ensures) (turned_back_sound i.cell_size i.block.words i.block.headers i.head c.self.invariant)

pub returns : goal.returns
returns c =
    let i = c.self.inside in
    rw (← c.self.view_is, c.turn_back.ensures) (turned_back_shown i.cell_size i.pending i.block.words i.block.headers i.head)
