use Rattle.std.proofs.Common.{refl}
use Rattle.heap_region.specs.Layout.{bit_set, changed_at}
use Rattle.heap_region.proofs.SlotCalls.{bit_is_totalled, object_changed_in, totals_of_bit, waits_of_changed}
use Rattle.heap_region.proofs.SlotChanges.{slot_of_object}
use Rattle.heap_region.proofs.Totals.{totals_are_few}
use Rattle.heap_region.proofs.Regions.set_bit.Goals as goal

pub with_bit-self-inside-requires-clause-unmarked : goal.with_bit-self-inside-requires-clause-unmarked
with_bit-self-inside-requires-clause-unmarked c = (totals_are_few c.self.inside.slots _ c.self.invariant.0.good c.self.invariant.0.few c.self.invariant.2).unmarked

pub with_bit-self-inside-requires-clause-dead : goal.with_bit-self-inside-requires-clause-dead
with_bit-self-inside-requires-clause-dead c = (totals_are_few c.self.inside.slots _ c.self.invariant.0.good c.self.invariant.0.few c.self.invariant.2).dead

pub with_bit-self-inside-requires-clause-marks : goal.with_bit-self-inside-requires-clause-marks
with_bit-self-inside-requires-clause-marks c = (bit_is_totalled c.self.inside.slots _ c.args.at c.args.bit _ c.self.invariant.2 c.set_bit-was.ensures.was (rw (← c.self.view_is) at c.requires)).0

pub with_bit-self-inside-requires-clause-lives : goal.with_bit-self-inside-requires-clause-lives
with_bit-self-inside-requires-clause-lives c = (bit_is_totalled c.self.inside.slots _ c.args.at c.args.bit _ c.self.invariant.2 c.set_bit-was.ensures.was (rw (← c.self.view_is) at c.requires)).1

pub invariant_of-self : goal.invariant_of-self
invariant_of-self c =
    let some = (slot_of_object c.self.inside.slots c.args.at (rw (← c.self.view_is) at c.requires)).1 in
    let e = c.with_bit-self-inside.ensures in (
      (object_changed_in c.self.inside.slots _ _ _ _ c.self.invariant.0 _ c.self.view_is c.args.at (bit_set c.args.bit c.args.on) c.requires _ c.set_bit-was.ensures.state c.set_bit-was.ensures.whole).0,
      waits_of_changed c.self.inside.slots _ c.args.at.region (λ u. changed_at u c.args.at.cell (bit_set c.args.bit c.args.on)) (λ u. refl) c.self.invariant.1 some _ c.set_bit-was.ensures.state,
      totals_of_bit c.self.inside.slots _ _ c.args.at c.args.bit c.args.on c.self.invariant.2 (rw (← c.self.view_is) at c.requires) _ c.set_bit-was.ensures.was e.objects e.unmarked e.dead _ c.set_bit-was.ensures.state,
    )

pub returns : goal.returns
returns c =
    (object_changed_in c.self.inside.slots _ _ _ _ c.self.invariant.0 _ c.self.view_is c.args.at (bit_set c.args.bit c.args.on) c.requires _ c.set_bit-was.ensures.state c.set_bit-was.ensures.whole).1
