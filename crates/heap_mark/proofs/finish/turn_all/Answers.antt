use Rattle.std.proofs.Common.{◌∙◌, sym, ap}
use Rattle.heap_region.specs.Pool.{RegionPool}
use Rattle.heap_mark.specs.MarkSteps.{dead_count, each_region}
use Rattle.heap_mark.proofs.UnmarkedCounts.{dead_are}
use Rattle.heap_mark.proofs.finish.turn_all.Goals as goal

pub returns-clause-regions : goal.returns-clause-regions
unfolding each_region
returns-clause-regions c = c.turn.ensures.turned

pub returns-clause-condemned : goal.returns-clause-condemned
returns-clause-condemned c = c.turn.ensures.unmarked ∙ (sym (dead_are c.args.regions.now.regions) ∙ ap (λ (s : RegionPool). dead_count s.regions) (sym (returns-clause-regions c)))
