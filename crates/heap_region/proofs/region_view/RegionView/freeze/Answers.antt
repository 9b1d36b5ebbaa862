use Rattle.heap_region.proofs.region_view.RegionView.freeze.Goals as goal

pub returns : goal.returns
returns c =
    let i = c.self.inside in
    rw (← c.self.view_is, ← c.since.ensures) (c.turn_by.ensures i.storage.now c.in_ok-copy.ensures)
