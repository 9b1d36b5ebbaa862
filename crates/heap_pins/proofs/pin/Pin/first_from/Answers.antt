use Rattle.std.proofs.Common.{◌*◌, ◌+◌, length, ap, arith}
use Rattle.heap_region.specs.Pool.{RegionPool}
use Rattle.heap_pins.specs.Pin.{state_seen}
use Rattle.heap_pins.proofs.FirstCells.{first_cell_is_small, first_in_region_is_first, none_in_region_goes_on, none_in_regions_is_none}
use Rattle.heap_pins.proofs.pin.Pin.first_from.Goals as goal

pub overflow_cast-result-in-Some : goal.overflow_cast-result-in-Some
overflow_cast-result-in-Some c = omega (arith, first_cell_is_small (state_seen c.args.self.now c.args.world.now.regions) c.loop-r.r c.loop-r.from c.in-Some.found c.in-Some.ensures)

pub returns-in-Some : goal.returns-in-Some
returns-in-Some c = first_in_region_is_first (state_seen c.args.self.now c.args.world.now.regions) (length c.args.world.now.regions) (256 * c.args.region + c.args.cell) c.loop-r.r c.loop-r.from c.in-Some.found
    (omega (arith, c.loop-r-test.true, c.loop-r.auto.r-end, c.count-r-end.ensures.value, ap (λ (s : RegionPool). length s.regions) c.regions.ensures)) c.loop-r.invariant.low c.loop-r.invariant.none c.in-Some.ensures

pub loop-r-preserved : goal.loop-r-preserved
loop-r-preserved c = record {
  few = omega arith;
  low = omega (arith, c.loop-r.invariant.low, c.loop-r.invariant.few);
  none = none_in_region_goes_on (state_seen c.args.self.now c.args.world.now.regions) (256 * c.args.region + c.args.cell) c.loop-r.r c.loop-r.from c.loop-r.invariant.none c.in_default.ensures;
}

pub returns : goal.returns
returns c = none_in_regions_is_none (state_seen c.args.self.now c.args.world.now.regions) (length c.args.world.now.regions) (256 * c.args.region + c.args.cell) c.loop-r.r c.loop-r.from
    (omega (arith, c.loop-r-test.false, c.loop-r.auto.r-end, c.count-r-end.ensures.value, ap (λ (s : RegionPool). length s.regions) c.regions.ensures)) c.loop-r.invariant.none
