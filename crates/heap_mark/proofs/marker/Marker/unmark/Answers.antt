use Rattle.std.proofs.Common.{◌≡◌, ◌≤◌, ◌∷◌, [], List, length, reverse, sym, ap, subst, ◌∙◌, arith}
use Rattle.std.proofs.lemmas.List.{length-reverse, reverse-append}
use Rattle.heap_region.specs.Regions.{Region}
use Rattle.heap_region.specs.Pool.{RegionPool}
use Rattle.heap_mark.specs.MarkSteps.{unmarked}
use Rattle.heap_mark.specs.Marker.{MarkerState, IsGraySound, at_work, after_work}
use Rattle.heap_mark.proofs.Calls.{gray_named, within_room, at_work_after, mark_back_to}
use Rattle.heap_mark.proofs.marker.Marker.unmark.Goals as goal

pub unshade-requires-clause-names : goal.unshade-requires-clause-names
unshade-requires-clause-names c = gray_named c.args.regions.now.regions c.args.self.now c.requires.sound

pub push_reserved-requires : goal.push_reserved-requires
unfolding unmarked
push_reserved-requires c =
    let i = c.self.inside in
    let m : MarkerState = after_work (unmarked c.args.parent c.args.pushed (at_work c.args.regions.now.regions c.args.self.now)) c.args.self.now in
    let sound : IsGraySound c.unshade.new.regions.regions m = subst (λ (rs : List Region). IsGraySound rs m) (sym (ap (λ (p : RegionPool). p.regions) c.unshade.ensures.regions)) c.requires.given in
    let room : length m.gray ≤ m.room = within_room c.unshade.new.regions m c.count-count.ensures.whole sound in
    let is = c.self.view_is ∙ c.unshade.ensures.marker in
    omega (arith, room, ap (λ (m : MarkerState). length m.gray) is, ap (λ (m : MarkerState). m.room) is, length-reverse i.gray.items, i.gray.ok.0)

pub returns-clause-marker : goal.returns-clause-marker
unfolding unmarked
returns-clause-marker c =
    let i = c.self.inside in
    let gray : reverse c.push_reserved.new.self.items ≡ c.args.parent ∷ reverse i.gray.items = ap reverse c.push_reserved.ensures.items ∙ reverse-append i.gray.items (c.args.parent ∷ []) in
    rw (gray, c.push_reserved.ensures.capacity) (ap (λ (m : MarkerState). record m { gray = c.args.parent ∷ m.gray }) (c.self.view_is ∙ c.unshade.ensures.marker))

pub returns-clause-regions : goal.returns-clause-regions
unfolding unmarked
returns-clause-regions c = c.unshade.ensures.regions

pub returns-clause-back : goal.returns-clause-back
returns-clause-back c before classes free is top grown =
    let s = at_work c.args.regions.now.regions c.args.self.now in
    at_work_after c.args.regions.now _ c.args.self.now _ (unmarked c.args.parent c.args.pushed s) (returns-clause-marker c) (returns-clause-regions c) ∙ mark_back_to before s classes c.args.parent c.args.pushed free is top grown
