use Rattle.std.proofs.Common.{◌≡◌, ◌-◌, ap, ◌∙◌, arith}
use Rattle.heap_mark.specs.MarkSteps.{unshaded, undrained}
use Rattle.heap_mark.specs.Marker.{MarkerState, at_work}
use Rattle.heap_mark.proofs.Calls.{gray_named, at_work_after, drain_undone_gives_state_before}
use Rattle.heap_mark.proofs.marker.Marker.undrain.Goals as goal

pub unshade-requires-clause-names : goal.unshade-requires-clause-names
unshade-requires-clause-names c = gray_named c.args.regions.now.regions c.args.self.now c.requires.sound

pub overflow_sub-self : goal.overflow_sub-self
unfolding unshaded
overflow_sub-self c = let same : c.self.inside.drained ≡ c.args.self.now.drained = ap (λ (m : MarkerState). m.drained) (c.self.view_is ∙ c.unshade.ensures.marker) in omega (arith, same, c.requires.drained)

pub returns-clause-marker : goal.returns-clause-marker
unfolding unshaded undrained
returns-clause-marker c = ap (λ (m : MarkerState). record m { drained = m.drained - 1 }) (c.self.view_is ∙ c.unshade.ensures.marker)

pub returns-clause-regions : goal.returns-clause-regions
unfolding unshaded undrained
returns-clause-regions c = c.unshade.ensures.regions

pub returns-clause-back : goal.returns-clause-back
returns-clause-back c before is grown =
    let s = at_work c.args.regions.now.regions c.args.self.now in
    at_work_after c.args.regions.now _ c.args.self.now _ (undrained c.args.pushed s) (returns-clause-marker c) (returns-clause-regions c) ∙ drain_undone_gives_state_before before s c.args.pushed is grown
