use Rattle.heap_region.specs.Quarters.{since}
use Rattle.heap_region.proofs.LateTurns.{there_before_turns, words_read_of_turned}
use Rattle.heap_region.proofs.region_view.RegionView.words.Goals as goal

pub words-requires : goal.words-requires
words-requires c =
    let i = c.self.inside in
    there_before_turns (since i.turns i.seen) i.storage.now c.args.cell (rw (← c.self.view_is) at c.requires)

pub returns : goal.returns
returns c =
    let i = c.self.inside in
    rw (← c.self.view_is) (words_read_of_turned (since i.turns i.seen) i.storage.now c.args.cell _ c.words.ensures)
