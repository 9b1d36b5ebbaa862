use Rattle.std.proofs.Common.{ap, arith}
use Rattle.heap_lock.proofs.LedgerSideSteps.{side_splits_if_full}
use Rattle.heap_lock.proofs.ledger.HomeTable+LedgerSide.seen.Goals as goal

pub split_seat-requires : goal.split_seat-requires
split_seat-requires c =
    let d = c.requires in
    (d.2.0, omega (arith, d.0), side_splits_if_full _ _ _ (ap (λ m. m.0) d.2.1))
