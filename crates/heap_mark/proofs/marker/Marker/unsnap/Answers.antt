use Rattle.std.proofs.Common.{◌≡◌, length, ap, ◌∙◌, arith}
use Rattle.std.proofs.lemmas.List.{length-reverse}
use Rattle.heap_mark.specs.declared.Phase.TheVariants.{Idle}
use Rattle.heap_mark.specs.MarkSteps.{MarkState, unsnapped}
use Rattle.heap_mark.specs.Marker.{MarkerState, at_work, after_work}
use Rattle.heap_mark.proofs.Calls.{snap_named, snap_unshaded, snap_back, at_work_after}
use Rattle.heap_mark.proofs.marker.Marker.unsnap.Goals as goal

pub unshade-requires-clause-names : goal.unshade-requires-clause-names
unshade-requires-clause-names c = let q = c.requires.snapped in snap_named q.0 (at_work c.args.regions.now.regions c.args.self.now) q.1 q.2 q.3

pub returns-clause-marker : goal.returns-clause-marker
returns-clause-marker c =
    let q = c.requires.snapped in
    let all : c.len-count.result ≡ length c.args.self.now.gray = rw (← c.self.view_is) (omega (arith, c.len-count.ensures, length-reverse c.self.inside.gray.items, c.self.inside.gray.ok.0)) in
    ap (λ (m : MarkerState). record m { phase = Idle }) (c.self-2.view_is ∙ c.unshade.ensures.marker) ∙ ap (λ (t : MarkState). after_work t c.args.self.now) (snap_unshaded q.0 _ q.1 _ q.2 q.3 all)

pub returns-clause-regions : goal.returns-clause-regions
returns-clause-regions c =
    let q = c.requires.snapped in
    let all : c.len-count.result ≡ length c.args.self.now.gray = rw (← c.self.view_is) (omega (arith, c.len-count.ensures, length-reverse c.self.inside.gray.items, c.self.inside.gray.ok.0)) in
    c.unshade.ensures.regions ∙ ap (λ (t : MarkState). record c.args.regions.now { regions = t.regions }) (snap_unshaded q.0 _ q.1 _ q.2 q.3 all)

pub returns-clause-back : goal.returns-clause-back
returns-clause-back c before roots unmarked is =
    let s = at_work c.args.regions.now.regions c.args.self.now in
    at_work_after c.args.regions.now _ c.args.self.now _ (unsnapped s) (returns-clause-marker c) (returns-clause-regions c) ∙ snap_back before s roots unmarked is
