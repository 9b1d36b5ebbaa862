use Rattle.std.proofs.Common.{◌≡◌, ◌∷◌, inl, sym, ap, ◌∙◌, reverse, length, arith, Contains}
use Rattle.std.proofs.lemmas.List.{length-reverse}
use Rattle.heap_region.proofs.References.{list_has_its_head}
use Rattle.heap_mark.specs.MarkSteps.{children_of}
use Rattle.heap_mark.specs.Marker.{MarkerState, NamesMarked, at_work}
use Rattle.heap_mark.proofs.Pops.{reverse_after_pop}
use Rattle.heap_mark.proofs.Calls.{mark_idle, mark_refused_without_gray, mark_free, gray_sound_without_top, marked_is, stack_grows}
use Rattle.heap_mark.proofs.marker.Marker.mark.Goals as goal

pub returns-then-not-is_marking-clause-answered : goal.returns-then-not-is_marking-clause-answered
returns-then-not-is_marking-clause-answered c = inl (mark_idle (at_work c.args.regions.now.regions c.args.self.now) (rw (← c.self.view_is) (sym c.if-not-is_marking.ensures)))

pub returns-in_default-clause-answered : goal.returns-in_default-clause-answered
returns-in_default-clause-answered c =
    let i = c.self.inside in
    inl (mark_refused_without_gray (at_work c.args.regions.now.regions c.args.self.now) (rw (← c.self.view_is) (sym c.if-not-is_marking.ensures)) (rw (← c.self.view_is) (omega (arith, c.in_default.ensures.cases.0, length-reverse i.gray.items, i.gray.ok.0))))

pub shade_children-requires-clause-sound : goal.shade_children-requires-clause-sound
shade_children-requires-clause-sound c =
    let i = c.self.inside in
    rw c.pop.ensures.capacity (gray_sound_without_top c.args.regions.now.regions _ c.in-Some.parent (reverse c.pop.new.self.items) (rw (← c.self.view_is) at c.requires.sound) (reverse_after_pop i.gray.items c.pop.new.self.items c.in-Some.parent c.in-Some.ensures.items))

pub shade_children-requires-clause-slots : goal.shade_children-requires-clause-slots
shade_children-requires-clause-slots c =
    let i = c.self.inside in
    let gray : c.args.self.now.gray ≡ c.in-Some.parent ∷ reverse c.pop.new.self.items = sym (ap (λ (m : MarkerState). m.gray) c.self.view_is) ∙ reverse_after_pop i.gray.items c.pop.new.self.items c.in-Some.parent c.in-Some.ensures.items in
    let there : Contains c.args.self.now.gray c.in-Some.parent = rw gray (list_has_its_head c.in-Some.parent (reverse c.pop.new.self.items)) in
    let named : NamesMarked c.args.regions.now.regions c.in-Some.parent = c.requires.sound.marked c.in-Some.parent there in
    rw named.1 (rw named.1 at (c.requires.slots c.in-Some.parent there))

pub shade_children-requires-clause-children : goal.shade_children-requires-clause-children
shade_children-requires-clause-children c =
    let i = c.self.inside in
    let gray : c.args.self.now.gray ≡ c.in-Some.parent ∷ reverse c.pop.new.self.items = sym (ap (λ (m : MarkerState). m.gray) c.self.view_is) ∙ reverse_after_pop i.gray.items c.pop.new.self.items c.in-Some.parent c.in-Some.ensures.items in
    let there : Contains c.args.self.now.gray c.in-Some.parent = rw gray (list_has_its_head c.in-Some.parent (reverse c.pop.new.self.items)) in
    c.requires.children c.in-Some.parent there

pub overflow_sub-pushed : goal.overflow_sub-pushed
overflow_sub-pushed c =
    let grown = stack_grows (children_of c.args.classes.now c.args.regions.now.regions c.in-Some.parent) (at_work c.args.regions.now.regions (record { gray = reverse c.pop.new.self.items; room = 0; log = c.self.inside.log.items; drained = c.self.inside.drained; phase = c.self.inside.phase })) in
    omega (arith, grown, c.len-before.ensures, c.len.ensures, ap (λ (m : MarkerState). length m.gray) (c.self-2.view_is ∙ c.shade_children.ensures.marker), length-reverse c.self-2.inside.gray.items, c.self-2.inside.gray.ok.0, length-reverse c.pop.new.self.items, c.pop.new.self.ok.0)

pub returns-clause-answered : goal.returns-clause-answered
returns-clause-answered c =
    let i = c.self.inside in
    mark_free (at_work c.args.regions.now.regions c.args.self.now) (rw (← c.self.view_is) (sym c.if-not-is_marking.ensures)) (rw (← c.self.view_is) (omega (arith, c.in-Some.ensures.cases, length-reverse i.gray.items, i.gray.ok.0)))

pub returns-clause-marker : goal.returns-clause-marker
returns-clause-marker c =
    let i = c.self.inside in
    let gray : c.args.self.now.gray ≡ c.in-Some.parent ∷ reverse c.pop.new.self.items = sym (ap (λ (m : MarkerState). m.gray) c.self.view_is) ∙ reverse_after_pop i.gray.items c.pop.new.self.items c.in-Some.parent c.in-Some.ensures.items in
    rw (marked_is c.args.classes.now (at_work c.args.regions.now.regions c.args.self.now) c.in-Some.parent (reverse c.pop.new.self.items) gray, ← c.self.view_is) (rw c.pop.ensures.capacity at c.shade_children.ensures.marker)

pub returns-clause-regions : goal.returns-clause-regions
returns-clause-regions c =
    let i = c.self.inside in
    let gray : c.args.self.now.gray ≡ c.in-Some.parent ∷ reverse c.pop.new.self.items = sym (ap (λ (m : MarkerState). m.gray) c.self.view_is) ∙ reverse_after_pop i.gray.items c.pop.new.self.items c.in-Some.parent c.in-Some.ensures.items in
    rw (marked_is c.args.classes.now (at_work c.args.regions.now.regions c.args.self.now) c.in-Some.parent (reverse c.pop.new.self.items) gray, ← c.self.view_is) c.shade_children.ensures.regions
