use Rattle.std.proofs.Common.{arith}
use Rattle.heap_server.proofs.SittingTurns.{sitting_goes_on_at_index}
use Rattle.heap_server.proofs.sittings.join_if_ended.Goals as goal

pub returns-clause-sit : goal.returns-clause-sit
returns-clause-sit g c = sitting_goes_on_at_index g.L.Heap.config g.L.Heap.tables c.args.sittings.now.items c.args.i c.index_mut.result.now c.join.new.self (omega (arith, c.requires, c.args.sittings.now.ok.0)) c.index_mut.ensures.value c.join.ensures
