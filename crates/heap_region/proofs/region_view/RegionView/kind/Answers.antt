use Rattle.heap_region.specs.Quarters.{since}
use Rattle.heap_region.proofs.LateTurns.{kind_of_turned, there_before_turns}
use Rattle.heap_region.proofs.region_view.RegionView.kind.Goals as goal

pub kind-requires : goal.kind-requires
kind-requires c =
    let i = c.self.inside in
    there_before_turns (since i.turns i.seen) i.storage.now c.args.cell (rw (← c.self.view_is) at c.requires)

pub returns : goal.returns
returns c =
    let i = c.self.inside in
    rw (← c.self.view_is) (kind_of_turned (since i.turns i.seen) i.storage.now c.args.cell _ c.kind.ensures)
