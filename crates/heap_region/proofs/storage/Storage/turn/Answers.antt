use Rattle.heap_region.proofs.TurnedRegions.{turned_headers_stay_sound, turned_headers_show_turned_region}
use Rattle.heap_region.proofs.storage.Storage.turn.Goals as goal

pub invariant_of-self : goal.invariant_of-self
invariant_of-self c =
    let i = c.self.inside in
    rw (c.turn.ensures) (turned_headers_stay_sound i.cell_size i.block.words i.block.headers i.head c.self.invariant)

pub returns : goal.returns
returns c =
    let i = c.self.inside in
    rw (← c.self.view_is, c.turn.ensures) (turned_headers_show_turned_region i.cell_size i.pending i.block.words i.block.headers i.head)
