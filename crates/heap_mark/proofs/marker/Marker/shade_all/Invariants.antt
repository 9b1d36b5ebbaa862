use Rattle.std.proofs.Common.{fold, drop}
use Rattle.heap_mark.specs.MarkSteps.{shaded}
use Rattle.heap_mark.specs.Marker.{at_work}
use Rattle.heap_mark.proofs.ShadeWalks.{IsUnderWay}
use Rattle.heap_mark.proofs.marker.Marker.shade_all.Given as goal

abbrev pub invariant-loop-id : goal.invariant-loop-id
invariant-loop-id l = IsUnderWay (fold shaded (at_work l.fn.regions.regions l.fn.self) l.ids) (drop l.id-index l.ids) l.fn.regions l.regions l.fn.self l.self
