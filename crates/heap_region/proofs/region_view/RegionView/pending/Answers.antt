use Rattle.std.proofs.Common.{sym}
use Rattle.heap_region.proofs.region_view.RegionView.pending.Goals as goal

pub returns : goal.returns
returns c =
    let i = c.self.inside in
    rw (← c.self.view_is, ← c.since.ensures) (c.pending_turned.ensures i.storage.now (sym c.pending.ensures))
