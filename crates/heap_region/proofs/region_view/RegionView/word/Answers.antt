use Rattle.std.proofs.Common.{get_or, sym, ap, ◌∙◌}
use Rattle.heap_region.specs.Quarters.{since}
use Rattle.heap_region.proofs.LateTurns.{words_of_turned}
use Rattle.heap_region.proofs.region_view.RegionView.word.Goals as goal

pub word-requires : goal.word-requires
word-requires c =
    let i = c.self.inside in
    rw (← words_of_turned (since i.turns i.seen) i.storage.now c.args.cell) (rw (← c.self.view_is) at c.requires)

pub returns : goal.returns
returns c =
    let i = c.self.inside in
    rw (← c.self.view_is) (c.word.ensures ∙ ap (λ ws. get_or ws c.args.slot 0) (sym (words_of_turned (since i.turns i.seen) i.storage.now c.args.cell)))
