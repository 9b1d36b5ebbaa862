use Rattle.std.proofs.Common.{◌≡◌, ◌∙◌, [], None, Some, length, sym, ap, subst, arith}
use Rattle.std.specs.Prelude.{slice_index_or}
use Rattle.std.proofs.lemmas.Bool.{eqb-true}
use Rattle.heap_region.specs.Pool.{RegionPool}
use Rattle.heap_region.specs.Regions.{used_at}
use Rattle.heap_pins.specs.Pin.{PinContents}
use Rattle.heap_pins.proofs.FirstCells.{live_now_is_shown}
use Rattle.heap_pins.proofs.pin.Pin.is_live_now.Goals as goal

pub returns-in-Some : goal.returns-in-Some
returns-in-Some c h =
    let blank = c.has_any.ensures c.if-has_any.false in (
      omega (arith, c.if-region-count.false, c.count.ensures.value, ap (λ (s : RegionPool). length s.regions) c.regions.ensures),
      live_now_is_shown c.args.self.now c.args.world.now.regions c.args.region c.args.cell c.in-Some.storage
          (ap (λ (p : PinContents). slice_index_or p.copies c.args.region None) (sym c.self.view_is) ∙ blank.0)
          (ap (λ (p : PinContents). slice_index_or p.cells c.args.region []) (sym c.self.view_is) ∙ blank.1)
          (subst (λ (s : RegionPool). used_at s.regions c.args.region ≡ Some c.in-Some.storage) c.regions-2.ensures c.in-Some.ensures)
          (sym c.storage_state.ensures ∙ eqb-true c.storage_state.result 1 h),
    )
