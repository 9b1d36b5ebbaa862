use Rattle.heap_region.specs.Quarters.{since}
use Rattle.heap_region.proofs.LateTurns.{whole_turned}
use Rattle.heap_region.proofs.region_view.RegionView.counts.Goals as goal

pub counts_turned-requires : goal.counts_turned-requires
counts_turned-requires c = (c.self.inside.storage.now, c.counts.ensures.counted)

pub returns-clause-counted : goal.returns-clause-counted
returns-clause-counted c =
    let i = c.self.inside in
    rw (← c.self.view_is, ← c.since.ensures) (c.counts_turned.ensures i.storage.now c.counts.ensures.counted)

pub returns-clause-whole : goal.returns-clause-whole
returns-clause-whole c =
    let i = c.self.inside in
    rw (← c.self.view_is) (whole_turned (since i.turns i.seen) i.storage.now c.counts.ensures.whole)
