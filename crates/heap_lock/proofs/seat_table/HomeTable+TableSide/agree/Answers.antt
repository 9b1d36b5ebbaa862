use Rattle.std.proofs.Common.{ap, ◌∙◌, arith}
use Rattle.heap_lock.specs.SeatEntries.{entries_of, entries_in}
use Rattle.heap_lock.proofs.Parts.{table_splits_if_whole, table_sides_join_if_parts, table_sides_agree_if_whole, agreed_table_sides_equal, sole_table_sides_equal, whole_table_of_known_second}
use Rattle.heap_lock.proofs.seat_table.HomeTable+TableSide.agree.Goals as goal

pub join_seat-requires : goal.join_seat-requires
join_seat-requires c =
    let d = c.requires.seat_table in
    let s = c.requires.share in
    let i = c.into_seat.ensures in
    (d.1.0, i.0 ∙ s.0, i.3, omega (arith, d.0), table_sides_join_if_parts _ _ _ _ _ _ (ap (λ m. m.0) d.1.1) (sole_table_sides_equal _ _ _ i.2 s.1))

pub load-requires : goal.load-requires
load-requires c =
    let d = c.requires.seat_table in
    let j = c.join_seat.ensures in
    let joined = whole_table_of_known_second _ (entries_of c.args.self.now.own.me.0) (entries_in c.args.share.views) _ _ (sole_table_sides_equal _ _ _ c.into_seat.ensures.2 c.requires.share.1) (ap (λ m. m.1) d.1.1) j.2 in
    (j.0 ∙ d.1.0, omega (arith, d.0), table_sides_agree_if_whole _ _ _ (entries_of c.args.self.now.own.me.0) (entries_in c.args.share.views) joined)

pub split_seat-requires : goal.split_seat-requires
split_seat-requires c =
    let d = c.requires.seat_table in
    let j = c.join_seat.ensures in
    let joined = whole_table_of_known_second _ (entries_of c.args.self.now.own.me.0) (entries_in c.args.share.views) _ _ (sole_table_sides_equal _ _ _ c.into_seat.ensures.2 c.requires.share.1) (ap (λ m. m.1) d.1.1) j.2 in
    let n = agreed_table_sides_equal _ _ _ _ joined c.load.ensures.2 in
    (c.load.ensures.0 ∙ j.0 ∙ d.1.0, omega (arith, d.0), table_splits_if_whole _ _ _ _ (ap (λ m. m.0) n.1))
