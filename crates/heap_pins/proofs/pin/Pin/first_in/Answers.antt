use Rattle.std.proofs.Common.{◌≡◌, ◌∙◌, None, Some, sym}
use Rattle.heap_region.specs.Pool.{RegionPool}
use Rattle.heap_region.specs.Regions.{used_at}
use Rattle.std.proofs.Common.{subst}
use Rattle.std.specs.Prelude.{slice_index_or}
use Rattle.heap_pins.proofs.CopiedRegions.{not_some_copy_is_none}
use Rattle.heap_pins.proofs.FirstCells.{first_in_a_copy, first_in_region, none_in_unused_region}
use Rattle.heap_pins.proofs.pin.Pin.first_in.Goals as goal

pub returns-then-has_copy : goal.returns-then-has_copy
returns-then-has_copy c = first_in_a_copy c.args.self.now c.args.world.now.regions c.args.region c.args.from c.first_kept.result (sym c.has_copy.ensures ∙ c.if-has_copy.true) c.first_kept.ensures

pub returns-in-Some : goal.returns-in-Some
returns-in-Some c = first_in_region c.args.self.now c.args.world.now.regions c.args.region c.args.from c.in-Some.storage c.first_of.result (not_some_copy_is_none (slice_index_or c.args.self.now.copies c.args.region None) (sym c.if-has_copy.ensures))
    (subst (λ (s : RegionPool). used_at s.regions c.args.region ≡ Some c.in-Some.storage) c.regions.ensures c.in-Some.ensures) c.first_of.ensures

pub returns-in-None : goal.returns-in-None
returns-in-None c = none_in_unused_region c.args.self.now c.args.world.now.regions c.args.region c.args.from (not_some_copy_is_none (slice_index_or c.args.self.now.copies c.args.region None) (sym c.if-has_copy.ensures))
    (subst (λ (s : RegionPool). used_at s.regions c.args.region ≡ None) c.regions.ensures c.in-None.ensures)
