use Rattle.std.proofs.Common.{◌≡◌, ◌++◌, take}
use Rattle.std.specs.Prelude.{flat_map}
use Rattle.hprof_session.specs.Places.{lines_of}
use Rattle.hprof_pair.specs.Changes.{slot_events}
use Rattle.hprof_pair.specs.Pairs.{pair_told}
use Rattle.hprof_pair.proofs.changes.push_each.Given as goal

abbrev pub invariant-loop-value : goal.invariant-loop-value
invariant-loop-value l = l.lines ≡ l.fn.lines ++ lines_of (flat_map (slot_events (pair_told l.pair)) (take l.value-index l.values))
