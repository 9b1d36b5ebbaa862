use Rattle.std.proofs.Common.{arith, map, option_map}
use Rattle.heap_region.specs.Turns.{turned_by, turned_object, turned_region, turned_back_region}
use Rattle.heap_region.proofs.Totals.{counted_turned, cells_counted_turned_back, dead_at_most, unmarked_at_most}
use Rattle.heap_region.proofs.region_view.counts_turned.Goals as goal

pub next-requires : goal.next-requires
next-requires c = dead_at_most c.requires.0.cells _ c.requires.1

pub next-requires-in-Two : goal.next-requires-in-Two
next-requires-in-Two c = dead_at_most c.requires.0.cells _ c.requires.1

pub next-requires-in-Two-2 : goal.next-requires-in-Two-2
next-requires-in-Two-2 c = omega (arith, unmarked_at_most c.requires.0.cells _ c.requires.1, c.next-in-Two.ensures.objects, c.next-in-Two.ensures.dead)

pub prior-requires : goal.prior-requires
prior-requires c = unmarked_at_most c.requires.0.cells _ c.requires.1

pub returns-in-Zero : goal.returns-in-Zero
unfolding turned_by
returns-in-Zero c u is = rw c.in-Zero.is is

pub returns-in-One : goal.returns-in-One
unfolding turned_by turned_region
returns-in-One c u is = rw c.in-One.is (counted_turned u.cells _ _ is c.next.ensures.objects c.next.ensures.unmarked c.next.ensures.dead)

pub returns-in-Two : goal.returns-in-Two
unfolding turned_by turned_region
returns-in-Two c u is =
    let once = counted_turned u.cells _ c.next-in-Two.result is c.next-in-Two.ensures.objects c.next-in-Two.ensures.unmarked c.next-in-Two.ensures.dead in
    rw c.in-Two.is (counted_turned (map (option_map turned_object) u.cells) c.next-in-Two.result _ once c.next-in-Two-2.ensures.objects c.next-in-Two-2.ensures.unmarked c.next-in-Two-2.ensures.dead)

pub returns-in-Three : goal.returns-in-Three
unfolding turned_by turned_back_region
returns-in-Three c u is = rw c.in-Three.is (cells_counted_turned_back u.cells _ _ is c.prior.ensures.objects c.prior.ensures.unmarked c.prior.ensures.dead)
