use Rattle.std.proofs.Common.{◌≡◌, take}
use Rattle.hprof_lines.specs.Sessions.{static_ids}
use Rattle.hprof_lines.proofs.session.static_ids.Given as goal

abbrev pub invariant-loop-it : goal.invariant-loop-it
invariant-loop-it l = l.ids.keys ≡ static_ids (take l.it-index l.statics)
