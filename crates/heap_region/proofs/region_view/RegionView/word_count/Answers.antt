use Rattle.heap_region.specs.Regions.{block_words}
use Rattle.std.proofs.Common.{sym, ap, ◌∙◌}
use Rattle.heap_region.specs.Quarters.{since}
use Rattle.heap_region.proofs.LateTurns.{size_of_turned}
use Rattle.heap_region.proofs.region_view.RegionView.word_count.Goals as goal

pub returns-clause-value : goal.returns-clause-value
returns-clause-value c =
    let i = c.self.inside in
    rw (← c.self.view_is) (c.word_count.ensures.value ∙ ap block_words (sym (size_of_turned (since i.turns i.seen) i.storage.now)))
