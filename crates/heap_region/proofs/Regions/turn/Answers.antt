use Rattle.std.proofs.Common.{ap, ◌∙◌}
use Rattle.heap_region.specs.Turns.{turned_region}
use Rattle.heap_region.proofs.AllTurned.{mapped_regions_shown, table_turned, waits_turned}
use Rattle.heap_region.proofs.ShownRegions.{with_regions}
use Rattle.heap_region.proofs.Totals.{total_dead_at_most, totals_turned, unmarked_shown_total}
use Rattle.heap_region.proofs.Regions.turn.Goals as goal

pub next-self-inside-requires : goal.next-self-inside-requires
next-self-inside-requires c = total_dead_at_most _ _ c.self.invariant.2

pub invariant_of-self : goal.invariant_of-self
invariant_of-self c =
    let i = c.self.inside in
    rw (c.turn.ensures, c.turn-2.ensures) (
      table_turned i.slots _ _ _ _ c.self.invariant.0,
      waits_turned i.slots _ c.self.invariant.1,
      totals_turned i.slots _ _ c.self.invariant.2 c.next-self-inside.ensures.objects c.next-self-inside.ensures.unmarked c.next-self-inside.ensures.dead,
    )

pub returns-clause-turned : goal.returns-clause-turned
returns-clause-turned c = rw (← c.self.view_is, c.turn.ensures) (ap (with_regions _ _) (mapped_regions_shown turned_region c.self.inside.slots))

pub returns-clause-unmarked : goal.returns-clause-unmarked
returns-clause-unmarked c = rw (← c.self.view_is) (c.self.invariant.2.unmarked ∙ unmarked_shown_total c.self.inside.slots)
