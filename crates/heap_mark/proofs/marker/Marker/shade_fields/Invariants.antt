use Rattle.std.proofs.Common.{◌≡◌, fold, drop, Some}
use Rattle.heap_region.specs.Regions.{Object, object_at}
use Rattle.heap_mark.specs.MarkSteps.{shaded}
use Rattle.heap_mark.specs.Marker.{at_work, references_among}
use Rattle.heap_mark.proofs.ShadeWalks.{IsUnderWay}
use Rattle.heap_mark.proofs.marker.Marker.shade_fields.Given as goal

abbrev pub invariant-loop-slot : goal.invariant-loop-slot
invariant-loop-slot l = (o : Object) → object_at l.fn.regions.regions l.at ≡ Some o → IsUnderWay (fold shaded (at_work l.fn.regions.regions l.fn.self) (references_among l.kinds o.words)) (references_among (drop l.slot l.kinds) (drop l.slot o.words)) l.fn.regions l.regions l.fn.self l.self
