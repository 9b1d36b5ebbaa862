use Rattle.std.proofs.Common.{sym, ◌∙◌}
use Rattle.heap_region.specs.Quarters.{since}
use Rattle.heap_region.proofs.LateTurns.{object_there_whatever_turns}
use Rattle.heap_region.proofs.region_view.RegionView.has_object.Goals as goal

pub returns : goal.returns
returns c =
    let i = c.self.inside in
    rw (← c.self.view_is) (c.has_object.ensures ∙ sym (object_there_whatever_turns (since i.turns i.seen) i.storage.now c.args.cell))
