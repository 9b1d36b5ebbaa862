use Rattle.std.proofs.Common.{suc, ap}
use Rattle.shared_dump.specs.Seats.{SeatState}
use Rattle.heap_runtime.proofs.WatchedDumps.{said_next, said_as}
use Rattle.heap_runtime.proofs.dumps.watch.Goals.{else-loop-test, then-loop-test+then-is_last}
use Rattle.heap_runtime.proofs.dumps.watch.Goals as goal

pub loop-preserved : goal.loop-preserved
loop-preserved g c =
    let says = g.W.DumpWatcher.says in
    let start = c.args.watching.watcher in
    let i = c.loop.invariant in
    let h = c.show.ensures.said in record {
      reads = ap (λ (s : SeatState _). s.meter) c.read.ensures.seen;
      asks = c.show.ensures.meter;
      sees = (suc i.sees.0, (c.loop.watcher, i.sees.1, c.read.result, h.0, h.1));
      said = said_next says start c.loop.watcher c.show.new.watcher i.sees.0 c.read.result h.0 c.loop.asker.known c.show.new.asker.known i.sees.1 i.said h.1 h.2;
    }

pub returns-clause-said : goal.returns-clause-said
returns-clause-said g c =
    let says = g.W.DumpWatcher.says in
    let start = c.args.watching.watcher in
    elim c.loop-test.branch [
      | else-loop-test w ↦ said_as says start _ _ _ _ w.watcher-is w.asker-is c.loop.invariant.said
      | then-loop-test+then-is_last w ↦ (let i = c.loop.invariant in let h = w.show.ensures.said in
          said_as says start _ _ _ _ w.watcher-is w.asker-is (said_next says start c.loop.watcher w.show.new.watcher i.sees.0 w.read.result h.0 c.loop.asker.known w.show.new.asker.known i.sees.1 i.said h.1 h.2))
    ]
