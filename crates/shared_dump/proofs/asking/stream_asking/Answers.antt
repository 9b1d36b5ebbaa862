use Rattle.shared_dump.specs.Guards.{SaidSince}
use Rattle.shared_dump.proofs.SentDumps.{cancelled_only}
use Rattle.shared_dump.proofs.asking.stream_asking.Goals as goal

pub returns-clause-cancelled : goal.returns-clause-cancelled
returns-clause-cancelled g c =
    let s = c.stream-pumped in
    let from = c.args.from in
    cancelled_only g.L.Heap.config from.pin from.time s.result.1.feed.known from.dumper s.result.2 (g.O.Outlet.seen c.new-asking.result.outlet) (g.O.Outlet.seen s.new.outlet.outlet) s.result.0
    (SaidSince g.G.DumpGuard.says g.B.AskStart.guard c.into_guarded-back.result.guard) s.ensures.put c.into_guarded-back.ensures.said
