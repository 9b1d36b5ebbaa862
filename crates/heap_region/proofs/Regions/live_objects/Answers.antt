use Rattle.std.proofs.Common.{arith, sym, ap, ◌∙◌}
use Rattle.std.specs.Prelude.{count_by}
use Rattle.heap_region.specs.Live.{cells_of, is_live}
use Rattle.heap_region.proofs.Totals.{dead_at_most, few_counted, live_cells_counted}
use Rattle.heap_region.proofs.Regions.live_objects.Goals as goal

pub overflow_sub-live : goal.overflow_sub-live
overflow_sub-live c = dead_at_most _ _ c.counts-counts.ensures.counted

pub returns-clause-value : goal.returns-clause-value
returns-clause-value c = live_cells_counted _ _ c.counts-counts.ensures.counted ∙ ap (λ x. count_by is_live (cells_of x)) (sym c.storage.ensures.value)

pub returns-clause-limit : goal.returns-clause-limit
returns-clause-limit c = omega (arith, live_cells_counted _ _ c.counts-counts.ensures.counted, few_counted c.storage.result is_live c.counts-counts.ensures.whole)
