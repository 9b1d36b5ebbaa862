use Rattle.std.proofs.Common.{ap, ◌∙◌, arith}
use Rattle.heap_lock.specs.Ledgers.{calls_in, all_in}
use Rattle.heap_lock.proofs.LedgerSideSteps.{side_splits_if_full, sides_join_if_full_and_seen, side_compares_if_both, compared_side_is_prefix, sole_ledger_sides_equal, both_side_of_known_second}
use Rattle.heap_lock.proofs.ledger.HomeTable+LedgerSide.show.Goals as goal

pub join_seat-requires : goal.join_seat-requires
join_seat-requires c =
    let d = c.requires.ledger in
    let s = c.requires.side in
    let i = c.into_seat.ensures in
    (d.2.0, i.0 ∙ s.0, i.3, omega (arith, d.0), sides_join_if_full_and_seen _ _ _ _ _ _ (ap (λ m. m.0) d.2.1) (sole_ledger_sides_equal _ _ _ i.2 s.1))

pub load-requires : goal.load-requires
load-requires c =
    let d = c.requires.ledger in
    let j = c.join_seat.ensures in
    let joined = both_side_of_known_second _ (all_in c.args.self.now) (calls_in c.args.side.views) _ _ (sole_ledger_sides_equal _ _ _ c.into_seat.ensures.2 c.requires.side.1) (ap (λ m. m.1) d.2.1) j.2 in
    (j.0 ∙ d.2.0, omega (arith, d.0), side_compares_if_both _ _ _ _ _ joined)

pub split_seat-requires : goal.split_seat-requires
split_seat-requires c =
    let d = c.requires.ledger in
    let j = c.join_seat.ensures in
    let joined = both_side_of_known_second _ (all_in c.args.self.now) (calls_in c.args.side.views) _ _ (sole_ledger_sides_equal _ _ _ c.into_seat.ensures.2 c.requires.side.1) (ap (λ m. m.1) d.2.1) j.2 in
    let n = compared_side_is_prefix _ _ _ _ joined c.load.ensures.2 in
    (c.load.ensures.0 ∙ j.0 ∙ d.2.0, omega (arith, d.0), side_splits_if_full _ _ _ (ap (λ m. m.0) n.1))
