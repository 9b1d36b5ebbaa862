use Rattle.heap_region.proofs.CellChanges.{whole_shown}
use Rattle.heap_region.proofs.TurnedRegions.{counts_of_headers_shown}
use Rattle.heap_region.proofs.storage.Storage.counts.Goals as goal

pub returns-clause-counted : goal.returns-clause-counted
returns-clause-counted c =
    let i = c.self.inside in
    rw (← c.self.view_is) (counts_of_headers_shown i.cell_size i.block.words i.block.headers _ (rw c.headers.ensures at c.counts.ensures))

pub returns-clause-whole : goal.returns-clause-whole
returns-clause-whole c =
    let i = c.self.inside in
    rw (← c.self.view_is) (whole_shown i.cell_size i.pending i.block.words i.block.headers i.head c.self.invariant)
