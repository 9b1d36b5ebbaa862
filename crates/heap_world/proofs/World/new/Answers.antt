use Rattle.std.proofs.Common.{◌*◌, ap, ◌∙◌}
use Rattle.heap_mark.specs.Marker.{MarkerState}
use Rattle.heap_world.specs.declared.Limits.{Limits}
use Rattle.heap_world.proofs.OpeningState.{parts_of_opening_state, opening_state_is_sound}
use Rattle.heap_region.specs.Pool.{opening_pool}
use Rattle.heap_world.proofs.World.new.Goals as goal

pub invariant_of-result : goal.invariant_of-result
invariant_of-result c = opening_state_is_sound c.args.config.limits c.args.config.regions c.args.config.mutators _ _ _
    (parts_of_opening_state _ _ _ _ _ _ _ _ _ _ c.limits-limits.ensures.value c.new-3.ensures (c.in_ok-regions.ensures.opened ∙ (ap (λ n. opening_pool n c.limits-limits.result.area) c.regions-count.ensures.value ∙ ap (λ (l : Limits). opening_pool c.args.config.regions l.area) c.limits-limits.ensures.value)) c.in_ok-registers.ensures.null (ap (λ n. 8 * n) c.mutators-mutators.ensures.value) c.in_ok-marker.ensures.idle)
    c.limits-limits.ensures.within c.regions-count.ensures.limits (ap (λ (m : MarkerState). m.room) c.in_ok-marker.ensures.idle ∙ ap (λ n. 256 * n) c.regions-count.ensures.value)

pub returns-clause-opened : goal.returns-clause-opened
returns-clause-opened c = parts_of_opening_state _ _ _ _ _ _ _ _ _ _ c.limits-limits.ensures.value c.new-3.ensures (c.in_ok-regions.ensures.opened ∙ (ap (λ n. opening_pool n c.limits-limits.result.area) c.regions-count.ensures.value ∙ ap (λ (l : Limits). opening_pool c.args.config.regions l.area) c.limits-limits.ensures.value)) c.in_ok-registers.ensures.null (ap (λ n. 8 * n) c.mutators-mutators.ensures.value) c.in_ok-marker.ensures.idle
