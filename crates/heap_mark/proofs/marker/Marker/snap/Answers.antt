use Rattle.std.proofs.Common.{inl, sym, ◌∙◌}
use Rattle.heap_mark.specs.MarkSteps.{snapped}
use Rattle.heap_mark.specs.Marker.{at_work}
use Rattle.heap_mark.proofs.Calls.{snap_refused, snap_free}
use Rattle.heap_mark.proofs.marker.Marker.snap.Goals as goal

pub returns-then-is_marking-clause-answered : goal.returns-then-is_marking-clause-answered
returns-then-is_marking-clause-answered c = inl (snap_refused (at_work c.args.regions.now.regions c.args.self.now) (rw (← c.self.view_is) (sym c.is_marking.ensures ∙ c.if-is_marking.true)))

pub returns-clause-answered : goal.returns-clause-answered
returns-clause-answered c = snap_free (at_work c.args.regions.now.regions c.args.self.now) (rw (← c.self.view_is) (sym c.is_marking.ensures ∙ c.if-is_marking.false))

pub returns-clause-marker : goal.returns-clause-marker
unfolding snapped
returns-clause-marker c = rw (← c.self.view_is) c.shade_all.ensures.marker

pub returns-clause-regions : goal.returns-clause-regions
unfolding snapped
returns-clause-regions c = rw (← c.self.view_is) c.shade_all.ensures.regions
