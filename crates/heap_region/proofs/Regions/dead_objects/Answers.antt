use Rattle.std.proofs.Common.{arith, sym, ap, ◌∙◌}
use Rattle.std.specs.Prelude.{count_by}
use Rattle.heap_region.specs.Live.{cells_of, is_dead}
use Rattle.heap_region.proofs.Totals.{few_counted}
use Rattle.heap_region.proofs.Regions.dead_objects.Goals as goal

pub returns-clause-value : goal.returns-clause-value
returns-clause-value c = c.counts-counts.ensures.counted.dead ∙ ap (λ x. count_by is_dead (cells_of x)) (sym c.storage.ensures.value)

pub returns-clause-limit : goal.returns-clause-limit
returns-clause-limit c = omega (arith, c.counts-counts.ensures.counted.dead, few_counted c.storage.result is_dead c.counts-counts.ensures.whole)
