use Rattle.std.proofs.Common.{ℕ, sym, ap, subst}
use Rattle.dump_pipe.specs.Seated.{TableId}
use Rattle.heap_lock.specs.Calls.{IsLegalLedger}
use Rattle.heap_lock.specs.Dumpers.{DumperState}
use Rattle.shared_dump.specs.Streams.{PutsLive}
use Rattle.shared_dump.proofs.ToldStreams.{fresh_source_puts_served_pin}
use Rattle.shared_dump.proofs.streams.stream.Goals as goal

pub returns-clause-put : goal.returns-clause-put
returns-clause-put g c =
    let e = c.stream_parts-pumped.ensures in
    let after = c.stream_parts-pumped.new in
    let i = c.into_dumper.ensures in
    subst (λ (d : DumperState). PutsLive g.L.Heap.config c.args.from.pin c.args.from.time c.args.from.dumper d after.source.seat.known (g.O.Outlet.seen c.args.outlet.now) (g.O.Outlet.seen after.outlet) c.stream_parts-pumped.result) (sym i.dumper)
    (fresh_source_puts_served_pin g.L.Heap.config c.args.from.pin c.args.from.time c.args.from.dumper c.new.result after.source.source c.args.seats.feed.known after.source.seat.known (g.O.Outlet.seen c.args.outlet.now) (g.O.Outlet.seen after.outlet) c.stream_parts-pumped.result
    c.new.ensures (ap (λ (k : (ℕ × ℕ × DumperState) × TableId). k.0.0) e.kept) (ap (λ (k : (ℕ × ℕ × DumperState) × TableId). k.0.1) e.kept) (ap (λ (k : (ℕ × ℕ × DumperState) × TableId). k.0.2) e.kept) i.supplied e.streamed)

pub returns-clause-legal : goal.returns-clause-legal
returns-clause-legal g c = let i = c.into_dumper.ensures in subst (λ (d : DumperState). IsLegalLedger g.L.Heap.config d.seen) (sym i.dumper) i.legal
