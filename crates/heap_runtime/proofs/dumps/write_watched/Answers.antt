use Rattle.std.proofs.Common.{◌≡◌, true, rules}
use Rattle.heap_runtime.specs.Dumps.{IsDumped, SaidNo}
use Rattle.heap_runtime.proofs.WatchedDumps.{cancelled_by}
use Rattle.heap_runtime.proofs.dumps.write_watched.Goals as goal

pub returns-clause-cancelled : goal.returns-clause-cancelled
returns-clause-cancelled g c =
    let says = g.W.DumpWatcher.says in
    let was = c.args.watching.watcher in
    let w = g.O.Outlet.seen c.args.sending.outlet in
    let r = c.join-watcher.result in
    let w' = g.O.Outlet.seen r.1.outlet in
    let is : IsDumped g.L.Heap.config c.args.time r.1.feed.known c.args.dumper w r.1.end w' r.1.dumper = search rules in
    let said : r.0.1.known ≡ true → SaidNo says was r.0.0 = search rules in
    cancelled_by says was r.0.0 g.L.Heap.config c.args.time r.1.feed.known r.0.1.known c.args.dumper r.1.dumper w w' r.1.end is c.settle.ensures said
