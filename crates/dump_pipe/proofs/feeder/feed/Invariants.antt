use Rattle.std.proofs.Common.{◌≡◌}
use Rattle.crossbeam_channel.specs.Claims.{view, IsSeatAt}
use Rattle.crossbeam_channel.specs.Ends.{sends_on}
use Rattle.dump_pipe.proofs.FeedSteps.{IsFeeding}
use Rattle.dump_pipe.proofs.feeder.feed.Given as goal

abbrev pub invariant-loop-piece : goal.invariant-loop-piece
invariant-loop-piece g l =
    IsSeatAt (sends_on l.sender) l.end × IsFeeding (g.S.Source.seen l.initial.source) (g.S.Source.seen l.source) (view l.end)
    × (g.S.Source.kept l.source ≡ g.S.Source.kept l.initial.source)

abbrev pub decreases-loop-piece : goal.decreases-loop-piece
decreases-loop-piece g l = (g.S.Source.seen l.source).left
