use Rattle.std.proofs.Common.{IsSome, sym, ap, subst, ◌∙◌}
use Rattle.heap_region.specs.RegionCopies.{frozen}
use Rattle.heap_pins.specs.Pin.{region_seen}
use Rattle.heap_pins.specs.SharedCopies.{IsPatchable}
use Rattle.heap_pins.proofs.RecordWalks.{equal_somes_are_equal}
use Rattle.heap_pins.proofs.SharedCopies.{patchable_region_is_seen, patched_copy_is_walked, reclaimed_copy_is_walked}
use Rattle.heap_pins.proofs.pin.Pin.take_copy_before.Goals as goal

pub take_copy-requires-clause-there : goal.take_copy-requires-clause-there
take_copy-requires-clause-there c =
    let seen = patchable_region_is_seen c.args.left.now c.args.self.now c.args.world.now c.args.region c.in_default.not-Reclaim c.requires.there in
    subst IsSome (sym seen.1) (search)

pub patch-requires : goal.patch-requires
patch-requires c =
    let seen = patchable_region_is_seen c.args.left.now c.args.self.now c.args.world.now c.args.region c.in_default.not-Reclaim c.requires.there in
    subst (IsPatchable c.args.left.now) (equal_somes_are_equal (sym seen.1 ∙ c.in_ok-copy-in_default.ensures.taken)) seen.2

pub returns-in_ok-new-in-Reclaim-clause-taken : goal.returns-in_ok-new-in-Reclaim-clause-taken
returns-in_ok-new-in-Reclaim-clause-taken c = reclaimed_copy_is_walked c.args.left.now (region_seen c.args.self.now c.args.world.now.regions c.args.region) c.in-Reclaim.region c.in-Reclaim.storage c.in_ok-new-in-Reclaim.field-0 c.in-Reclaim.is
    (c.in_ok-new-in-Reclaim.ensures ∙ c.in_ok-freeze-in-Reclaim.ensures ∙ ap frozen c.view.ensures)

pub returns-in_ok-patch-in_default : goal.returns-in_ok-patch-in_default
returns-in_ok-patch-in_default c = record {
  taken = patched_copy_is_walked c.args.left.now (region_seen c.args.self.now c.args.world.now.regions c.args.region) c.in_ok-copy-in_default.copy c.patch.new.self c.in_default.not-Reclaim c.in_ok-copy-in_default.ensures.taken c.in_ok-patch-in_default.ensures;
  left = c.take_copy.ensures.left;
  refused = tt;
}
