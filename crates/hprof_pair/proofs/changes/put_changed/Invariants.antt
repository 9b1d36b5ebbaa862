use Rattle.std.proofs.Common.{◌≡◌, ◌++◌, drop}
use Rattle.hprof_pair.specs.Changes.{changes_from}
use Rattle.hprof_pair.specs.Pairs.{pair_told}
use Rattle.hprof_pair.proofs.changes.put_changed.Given as goal

abbrev pub invariant-loop-i : goal.invariant-loop-i
invariant-loop-i l =
    l.changed.items ++ changes_from (pair_told l.pair) l.before l.i (drop l.i l.values)
    ≡ changes_from (pair_told l.pair) l.before 0 l.values
