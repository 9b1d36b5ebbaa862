use Rattle.std.proofs.Common.{sym, ◌∙◌}
use Rattle.heap_region.specs.Quarters.{since}
use Rattle.heap_region.proofs.LateTurns.{size_of_turned, whole_turned}
use Rattle.heap_region.proofs.region_view.RegionView.cell_size.Goals as goal

pub returns-clause-value : goal.returns-clause-value
returns-clause-value c =
    let i = c.self.inside in
    rw (← c.self.view_is) (c.cell_size.ensures.value ∙ sym (size_of_turned (since i.turns i.seen) i.storage.now))

pub returns-clause-whole : goal.returns-clause-whole
returns-clause-whole c =
    let i = c.self.inside in
    rw (← c.self.view_is) (whole_turned (since i.turns i.seen) i.storage.now c.cell_size.ensures.whole)
