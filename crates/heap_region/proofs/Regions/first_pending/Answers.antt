use Rattle.std.proofs.Common.{◌≡◌, ◌+◌, Some, arith, ap, sym, ◌∙◌}
use Rattle.std.proofs.lemmas.List.{length-map}
use Rattle.heap_region.specs.Table.{wait_class_of}
use Rattle.heap_region.proofs.WaitingRegions.{first_region_that_waits, no_region_waits}
use Rattle.heap_region.proofs.Regions.first_pending.Goals as goal

pub returns-in-Some : goal.returns-in-Some
returns-in-Some c =
    let i = c.self.inside in
    let h = rw c.self.invariant.1 at c.in-Some.ensures in
    let z : c.in-Some.region ≡ 0 + c.in-Some.region = omega arith in
    rw (← c.self.view_is) (ap Some z ∙ sym (first_region_that_waits 0 i.slots c.in-Some.region (omega (arith, h.0.high, length-map i.slots wait_class_of)) (λ j l p. h.0.before j (omega arith) l p) h.1))

pub returns-in-None : goal.returns-in-None
returns-in-None c =
    let i = c.self.inside in
    let h = rw c.self.invariant.1 at c.in-None.ensures in
    rw (← c.self.view_is) (sym (no_region_waits 0 i.slots (λ k lt p. h k (omega arith) (omega (arith, length-map i.slots wait_class_of)) p)))
