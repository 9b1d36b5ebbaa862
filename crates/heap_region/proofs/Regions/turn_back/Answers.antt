use Rattle.std.proofs.Common.{ap}
use Rattle.heap_region.specs.Turns.{turned_back_region}
use Rattle.heap_region.proofs.AllTurned.{mapped_regions_shown, table_turned_back, waits_turned_back}
use Rattle.heap_region.proofs.ShownRegions.{with_regions}
use Rattle.heap_region.proofs.Totals.{total_unmarked_at_most, totals_turned_back}
use Rattle.heap_region.proofs.Regions.turn_back.Goals as goal

pub prior-self-inside-requires : goal.prior-self-inside-requires
prior-self-inside-requires c = total_unmarked_at_most _ _ c.self.invariant.2

pub invariant_of-self : goal.invariant_of-self
invariant_of-self c =
    let i = c.self.inside in
    rw (c.turn_back.ensures, c.turn.ensures) (
      table_turned_back i.slots _ _ _ _ c.self.invariant.0,
      waits_turned_back i.slots _ c.self.invariant.1,
      totals_turned_back i.slots _ _ c.self.invariant.2 c.prior-self-inside.ensures.objects c.prior-self-inside.ensures.unmarked c.prior-self-inside.ensures.dead,
    )

pub returns : goal.returns
returns c = rw (← c.self.view_is, c.turn_back.ensures) (ap (with_regions _ _) (mapped_regions_shown turned_back_region c.self.inside.slots))
