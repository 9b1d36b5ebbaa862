use Rattle.std.proofs.Common.{List}
use Rattle.hprof_session.specs.Surveys.{bytes_left}
use Rattle.hprof_session.specs.Walks.{ItemTold, left}
use Rattle.hprof_lines.specs.Passes.{IsWhole}
use Rattle.hprof_lines.proofs.Passing.{IsMaking}
use Rattle.hprof_lines.proofs.passes.made_objects.Given as goal

abbrev pub invariant-items : goal.invariant-items
invariant-items l =
    (items : List ItemTold) → IsWhole (left l.walk) items
    → IsMaking l.plan l.objects.keys l.before (left l.at) l.made.items items

abbrev pub decreases-items : goal.decreases-items
decreases-items l = bytes_left (left l.at)
