use Rattle.std.proofs.Common.{List}
use Rattle.std.specs.Prelude.{map}
use Rattle.hprof_reader.specs.SubRecords.{sub_record}
use Rattle.hprof_session.specs.Surveys.{bytes_left}
use Rattle.hprof_session.specs.Walks.{ItemTold, left}
use Rattle.hprof_lines.specs.Passes.{IsWhole}
use Rattle.hprof_pair.proofs.Collected.{IsCollecting}
use Rattle.hprof_pair.proofs.dump.collect_subs.Given as goal

abbrev pub invariant-items : goal.invariant-items
invariant-items l =
    (items : List ItemTold) → IsWhole (left l.walk) items
    → IsCollecting l.objects.keys (left l.at) (map sub_record l.subs.items) items

abbrev pub decreases-items : goal.decreases-items
decreases-items l = bytes_left (left l.at)
