use Rattle.std.proofs.Common.{sym, ◌∙◌}
use Rattle.heap_region.specs.Quarters.{since}
use Rattle.heap_region.proofs.LateTurns.{free_of_turned}
use Rattle.heap_region.proofs.region_view.RegionView.free_list.Goals as goal

pub returns : goal.returns
returns c =
    let i = c.self.inside in
    rw (← c.self.view_is) (c.free_list.ensures ∙ sym (free_of_turned (since i.turns i.seen) i.storage.now))
