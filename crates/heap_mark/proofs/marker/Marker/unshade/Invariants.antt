use Rattle.std.proofs.Common.{◌-◌}
use Rattle.heap_mark.specs.MarkSteps.{unshaded}
use Rattle.heap_mark.specs.Marker.{at_work}
use Rattle.heap_mark.proofs.Pops.{IsUndoing}
use Rattle.heap_mark.proofs.marker.Marker.unshade.Given as goal

abbrev pub invariant-loop-step : goal.invariant-loop-step
invariant-loop-step l = IsUndoing (unshaded l.count (at_work l.fn.regions.regions l.fn.self)) (l.count - l._step) l.fn.regions l.regions l.fn.self l.self
