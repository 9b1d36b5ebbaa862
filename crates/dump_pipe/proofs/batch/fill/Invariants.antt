use Rattle.std.proofs.Common.{◌≡◌, None}
use Rattle.dump_pipe.proofs.BatchFilling.{IsFilling}
use Rattle.dump_pipe.proofs.batch.fill.Given as goal

abbrev pub invariant-loop-next : goal.invariant-loop-next
invariant-loop-next g l =
    IsFilling (g.S.Source.seen l.initial.source) (g.S.Source.seen l.source) l.initial.batch.items l.batch.items
    × (l.surplus ≡ None) × (g.S.Source.kept l.source ≡ g.S.Source.kept l.initial.source)

abbrev pub decreases-loop-next : goal.decreases-loop-next
decreases-loop-next g l = (g.S.Source.seen l.source).left
