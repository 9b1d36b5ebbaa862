use Rattle.std.proofs.Common.{[], ap, arith}
use Rattle.heap_lock.proofs.Parts.{table_splits_if_whole}
use Rattle.heap_lock.proofs.seat_table.HomeTable+TableSide.open.Goals as goal

pub split_seat-requires : goal.split_seat-requires
split_seat-requires c =
    let d = c.requires in
    (d.1.0, omega (arith, d.0), table_splits_if_whole _ _ [] [] (ap (λ m. m.0) d.1.1))
