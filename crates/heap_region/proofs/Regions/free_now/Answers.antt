use Rattle.std.proofs.Common.{Option, arith, refl, ap, length-set, ◌∙◌}
use Rattle.heap_region.specs.Regions.{UsedRegion}
use Rattle.heap_region.specs.Pool.{cell_freed, freed}
use Rattle.heap_region.proofs.Laws.{taken_cell_freed_again}
use Rattle.heap_region.proofs.SlotCalls.{object_freed_in, object_totalled, totals_of_freed, waits_of_changed}
use Rattle.heap_region.proofs.SlotChanges.{slot_of_object}
use Rattle.heap_region.proofs.Regions.free_now.Goals as goal

pub without-self-inside-requires-clause-objects : goal.without-self-inside-requires-clause-objects
without-self-inside-requires-clause-objects c = (object_totalled c.self.inside.slots _ c.args.at _ c.self.invariant.2 c.free-full.ensures.was (rw (← c.self.view_is) at c.requires.there)).objects

pub without-self-inside-requires-clause-unmarked : goal.without-self-inside-requires-clause-unmarked
without-self-inside-requires-clause-unmarked c = (object_totalled c.self.inside.slots _ c.args.at _ c.self.invariant.2 c.free-full.ensures.was (rw (← c.self.view_is) at c.requires.there)).unmarked

pub without-self-inside-requires-clause-dead : goal.without-self-inside-requires-clause-dead
without-self-inside-requires-clause-dead c = (object_totalled c.self.inside.slots _ c.args.at _ c.self.invariant.2 c.free-full.ensures.was (rw (← c.self.view_is) at c.requires.there)).dead

pub free_class-requires : goal.free_class-requires
free_class-requires c =
    let i = c.self.inside in
    rw c.free-full.ensures.state (omega (arith, (slot_of_object i.slots c.args.at (rw (← c.self.view_is) at c.requires.there)).2, length-set {A = Option UsedRegion}))

pub invariant_of-self : goal.invariant_of-self
invariant_of-self c =
    let b = c.requires.another in
    let i = c.self.inside in
    let there = rw (← c.self.view_is) at c.requires.there in (
      rw (c.set.ensures, c.free_class.ensures.value) (object_freed_in i.slots _ _ _ _ c.self.invariant.0 _ c.self.view_is c.args.at b.0 c.requires.there b.1 b.2 b.3 _ c.free-full.ensures.state c.free-full.ensures.whole _ c.free-full.ensures.full).0,
      waits_of_changed i.slots _ c.args.at.region (λ u. cell_freed u c.args.at.cell) (λ u. refl) c.self.invariant.1 (slot_of_object i.slots c.args.at there).1 _ c.free-full.ensures.state,
      totals_of_freed i.slots _ _ c.args.at c.self.invariant.2 there _ c.free-full.ensures.was c.without-self-inside.ensures.objects c.without-self-inside.ensures.unmarked c.without-self-inside.ensures.dead _ c.free-full.ensures.state,
    )

pub invariant_of-self-else-full : goal.invariant_of-self-else-full
invariant_of-self-else-full c =
    let b = c.requires.another in
    let i = c.self.inside in
    let there = rw (← c.self.view_is) at c.requires.there in (
      (object_freed_in i.slots _ _ _ _ c.self.invariant.0 _ c.self.view_is c.args.at b.0 c.requires.there b.1 b.2 b.3 _ c.free-full.ensures.state c.free-full.ensures.whole _ c.free-full.ensures.full).1 c.if-full.false,
      waits_of_changed i.slots _ c.args.at.region (λ u. cell_freed u c.args.at.cell) (λ u. refl) c.self.invariant.1 (slot_of_object i.slots c.args.at there).1 _ c.free-full.ensures.state,
      totals_of_freed i.slots _ _ c.args.at c.self.invariant.2 there _ c.free-full.ensures.was c.without-self-inside.ensures.objects c.without-self-inside.ensures.unmarked c.without-self-inside.ensures.dead _ c.free-full.ensures.state,
    )

pub returns-then-full-clause-state : goal.returns-then-full-clause-state
returns-then-full-clause-state c =
    let b = c.requires.another in
    (object_freed_in c.self.inside.slots _ _ _ _ c.self.invariant.0 _ c.self.view_is c.args.at b.0 c.requires.there b.1 b.2 b.3 _ c.free-full.ensures.state c.free-full.ensures.whole _ c.free-full.ensures.full).2

pub returns-then-full-clause-back : goal.returns-then-full-clause-back
returns-then-full-clause-back c before o legal first is = returns-then-full-clause-state c ∙ (ap (freed c.args.at) is ∙ taken_cell_freed_again c.args.at o before legal first)

pub returns-else-full-clause-state : goal.returns-else-full-clause-state
returns-else-full-clause-state c =
    let b = c.requires.another in
    (object_freed_in c.self.inside.slots _ _ _ _ c.self.invariant.0 _ c.self.view_is c.args.at b.0 c.requires.there b.1 b.2 b.3 _ c.free-full.ensures.state c.free-full.ensures.whole _ c.free-full.ensures.full).2

pub returns-else-full-clause-back : goal.returns-else-full-clause-back
returns-else-full-clause-back c before o legal first is = returns-else-full-clause-state c ∙ (ap (freed c.args.at) is ∙ taken_cell_freed_again c.args.at o before legal first)
