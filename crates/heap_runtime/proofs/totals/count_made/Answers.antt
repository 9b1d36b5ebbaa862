use Rattle.std.proofs.Common.{rules, tests, ◌∙◌}
use Rattle.std.proofs.lemmas.Iterator.{YieldsList-from_slice}
use Rattle.std.proofs.lemmas.Iterator.Consumers.{count_from_yields_List, YieldsList-from_filter}
use Rattle.std.proofs.lemmas.List.Sums.{length-filter}
use Rattle.heap_runtime.specs.Totals.{is_making}
use Rattle.heap_runtime.proofs.totals.count_made.Goals as goal

pub returns : goal.returns
returns c =
    count_from_yields_List c.filter.result _ c.count.ensures.ran (YieldsList-from_filter _ is_making (YieldsList-from_slice c.args.claims.now cc) c.filter.ensures.closure (λ x r q k. search (rules, tests)))
    ∙ length-filter is_making c.args.claims.now
