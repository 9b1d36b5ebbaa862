use Rattle.std.proofs.Common.{IsSome, sym, ap, subst, ◌∙◌}
use Rattle.heap_region.specs.Pool.{RegionPool}
use Rattle.heap_region.specs.Regions.{used_at}
use Rattle.heap_region.specs.RegionCopies.{frozen, region_frozen}
use Rattle.heap_pins.proofs.RoomForCopies.{touched_region_is_used}
use Rattle.heap_pins.proofs.SharedCopies.{patched_copy_is_for_step, reclaimed_copy_is_for_step, touched_region_is_patchable}
use Rattle.heap_pins.proofs.region_copy.frozen_before.Goals as goal

pub freeze-requires-in_default : goal.freeze-requires-in_default
freeze-requires-in_default c = subst (λ (s : RegionPool). IsSome (used_at s.regions c.args.region)) (sym c.regions-in_default.ensures)
    (touched_region_is_used c.requires.step.0 c.requires.step.1 c.args.world.now c.args.left.now c.requires.step.2 c.args.region c.requires.touched c.in_default.not-Reclaim)

pub patch-requires : goal.patch-requires
patch-requires c = touched_region_is_patchable c.requires.step.0 c.requires.step.1 c.args.world.now c.args.left.now c.requires.step.2 c.args.region c.in_ok-copy-in_default.copy c.requires.touched
    (ap (λ (s : RegionPool). region_frozen s.regions c.args.region) (sym c.regions-in_default.ensures) ∙ c.in_ok-copy-in_default.ensures.copied)

pub returns-in_ok-freeze-in-Reclaim-clause-made : goal.returns-in_ok-freeze-in-Reclaim-clause-made
returns-in_ok-freeze-in-Reclaim-clause-made c = reclaimed_copy_is_for_step c.args.left.now c.args.world.now c.args.region c.in-Reclaim.region c.in-Reclaim.storage c.in_ok-freeze-in-Reclaim.field-0 c.in-Reclaim.is
    (c.in_ok-freeze-in-Reclaim.ensures ∙ ap frozen c.view.ensures)

pub returns-in_ok-copy-in_default : goal.returns-in_ok-copy-in_default
returns-in_ok-copy-in_default c = record {
  made = patched_copy_is_for_step c.args.left.now c.args.world.now c.args.region c.in_ok-copy-in_default.copy c.patch.new.copy c.in_default.not-Reclaim
      (ap (λ (s : RegionPool). region_frozen s.regions c.args.region) (sym c.regions-in_default.ensures) ∙ c.in_ok-copy-in_default.ensures.copied) c.patch.ensures;
  refused = tt;
}
