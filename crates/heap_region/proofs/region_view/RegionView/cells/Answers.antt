use Rattle.std.proofs.Common.{sym, ◌∙◌}
use Rattle.heap_region.specs.Quarters.{since}
use Rattle.heap_region.proofs.LateTurns.{length_of_turned}
use Rattle.heap_region.proofs.region_view.RegionView.cells.Goals as goal

pub returns-clause-value : goal.returns-clause-value
returns-clause-value c =
    let i = c.self.inside in
    rw (← c.self.view_is) (c.cells.ensures.value ∙ sym (length_of_turned (since i.turns i.seen) i.storage.now))
