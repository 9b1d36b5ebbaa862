use Rattle.std.proofs.Common.{length, sym, ap, ◌∙◌}
use Rattle.heap_region.specs.Quarters.{since}
use Rattle.heap_region.proofs.LateTurns.{there_before_turns, words_of_turned}
use Rattle.heap_region.proofs.region_view.RegionView.len.Goals as goal

pub len-requires : goal.len-requires
len-requires c =
    let i = c.self.inside in
    there_before_turns (since i.turns i.seen) i.storage.now c.args.cell (rw (← c.self.view_is) at c.requires)

pub returns-clause-value : goal.returns-clause-value
returns-clause-value c =
    let i = c.self.inside in
    rw (← c.self.view_is) (c.len.ensures.value ∙ ap length (sym (words_of_turned (since i.turns i.seen) i.storage.now c.args.cell)))
