use Rattle.std.proofs.Common.{◌≡◌, ◌∷◌, List, ℕ, reverse, sym, ap, ◌∙◌, refl, IsSome, arith, get_or}
use Rattle.std.proofs.lemmas.List.{length-reverse}
use Rattle.heap_region.specs.Regions.{object_of}
use Rattle.heap_region.proofs.ChangedLookups.{object_at_ref}
use Rattle.heap_mark.specs.Marker.{MarkerState, at_work}
use Rattle.heap_mark.proofs.Pops.{reverse_after_pop, unshaded_at}
use Rattle.heap_mark.proofs.marker.Marker.unshade_top.Goals as goal

pub unreachable-requires : goal.unreachable-requires
unreachable-requires c = let i = c.self.inside in absurd (omega (arith, c.in_default.ensures.cases.0, rw (← c.self.view_is) at c.requires.within, length-reverse i.gray.items, i.gray.ok.0))

pub set_mark-requires : goal.set_mark-requires
set_mark-requires c =
    let i = c.self.inside in
    let rs = c.args.regions.now.regions in
    let gray : c.args.self.now.gray ≡ c.in-Some.id ∷ reverse c.pop.new.self.items = sym (ap (λ (m : MarkerState). m.gray) c.self.view_is) ∙ reverse_after_pop i.gray.items c.pop.new.self.items c.in-Some.id c.in-Some.ensures.items in
    let top : get_or c.args.self.now.gray 0 0 ≡ c.in-Some.id = ap (λ (g : List ℕ). get_or g 0 0) gray in
    let named : IsSome (object_of rs c.in-Some.id) = rw top at c.requires.names in
    rw (← object_at_ref rs c.in-Some.id c.place-at.result c.place-at.ensures) named

pub returns-clause-marker : goal.returns-clause-marker
returns-clause-marker c =
    let i = c.self.inside in
    let gray : c.args.self.now.gray ≡ c.in-Some.id ∷ reverse c.pop.new.self.items = sym (ap (λ (m : MarkerState). m.gray) c.self.view_is) ∙ reverse_after_pop i.gray.items c.pop.new.self.items c.in-Some.id c.in-Some.ensures.items in
    rw (unshaded_at (at_work c.args.regions.now.regions c.args.self.now) c.in-Some.id (reverse c.pop.new.self.items) c.place-at.result gray c.place-at.ensures, ← c.self.view_is, c.pop.ensures.capacity) refl

pub returns-clause-regions : goal.returns-clause-regions
returns-clause-regions c =
    let i = c.self.inside in
    let gray : c.args.self.now.gray ≡ c.in-Some.id ∷ reverse c.pop.new.self.items = sym (ap (λ (m : MarkerState). m.gray) c.self.view_is) ∙ reverse_after_pop i.gray.items c.pop.new.self.items c.in-Some.id c.in-Some.ensures.items in
    rw (unshaded_at (at_work c.args.regions.now.regions c.args.self.now) c.in-Some.id (reverse c.pop.new.self.items) c.place-at.result gray c.place-at.ensures) c.set_mark.ensures.state
