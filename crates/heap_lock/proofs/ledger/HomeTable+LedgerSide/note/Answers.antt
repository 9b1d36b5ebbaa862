use Rattle.std.proofs.Common.{arith}
use Rattle.heap_lock.proofs.LedgerSideSteps.{side_adds_call_if_full}
use Rattle.heap_lock.proofs.ledger.HomeTable+LedgerSide.note.Goals as goal

pub load-requires : goal.load-requires
load-requires g c =
    let d = c.requires in
    (d.2.0, omega (arith, d.0), side_adds_call_if_full _ _ _ _ _ d.2.1)
