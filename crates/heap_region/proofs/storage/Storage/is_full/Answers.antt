use Rattle.heap_region.proofs.CellChanges.{no_link_tells_empty, whole_shown}
use Rattle.heap_region.proofs.storage.Storage.is_full.Goals as goal

pub returns-clause-value : goal.returns-clause-value
returns-clause-value c = rw (← c.self.view_is) (no_link_tells_empty _ _ _ _ c.self.invariant.linked)

pub returns-clause-whole : goal.returns-clause-whole
returns-clause-whole c =
    let i = c.self.inside in
    rw (← c.self.view_is) (whole_shown i.cell_size i.pending i.block.words i.block.headers i.head c.self.invariant)
