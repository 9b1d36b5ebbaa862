use Rattle.std.proofs.Common.{[], ◌∷◌, length, sym, ◌∙◌, ap, ap₂, arith}
use Rattle.hprof_text.specs.Cursors.{from_item}
use Rattle.hprof_text.specs.Sizes.{dump_size}
use Rattle.hprof_text.specs.Text.{object_dump}
use Rattle.hprof_text.specs.declared.section.Section.TheVariants.{Objects}
use Rattle.hprof_text.proofs.AddedSizes.{section_item_is_measured, section_items_are_measured}
use Rattle.hprof_text.proofs.Sections.{object_item_is_its_dump}
use Rattle.hprof_text.proofs.ViewedObjects.{fewer_places_left_after_next, object_viewed_at_place, object_sized, no_objects_past_places, number_after_place_within}
use Rattle.hprof_text.proofs.measure.Measure.add_objects.Goals as goal

pub add-requires-clause-limit : goal.add-requires-clause-limit
add-requires-clause-limit g c =
    let e = sym c.loop-here.invariant.here ∙ c.in-Some.is in
    let w = number_after_place_within (g.V.View.places c.args.view.now) c.loop-here.passed c.in-Some.at e in
    omega (arith, c.loop-here.invariant.limit, c.requires, c.dump_size.ensures.limit, w, c.classes-classes.ensures.placed, c.classes-classes.ensures.limits.few_objects)

pub loop-here-smaller : goal.loop-here-smaller
loop-here-smaller g c = fewer_places_left_after_next (g.V.View.places c.args.view.now) c.loop-here.passed _ c.in-Some.at c.loop-here.invariant.here c.in-Some.is

pub loop-here-preserved : goal.loop-here-preserved
loop-here-preserved g c =
    let ids = g.V.View.ids c.args.view.now in
    let image = g.V.View.image c.args.view.now in
    let places = g.V.View.places c.args.view.now in
    let i = c.loop-here.passed in
    let e = sym c.loop-here.invariant.here ∙ c.in-Some.is in
    let h = object_viewed_at_place image places i c.in-Some.at c.kind.result c.words.result.now c.classes-classes.ensures.limits c.classes-classes.ensures.placed e (c.kind.ensures i e) (c.words.ensures i e) in
    let size = ap₂ (λ s cs. dump_size s cs c.kind.result (length c.words.result.now)) c.id_size-ids.ensures c.classes-classes.ensures.value in
    let item = object_dump ids image.classes h.object ∷ [] in
    let sized = ap (λ n. n ∷ []) (object_sized ids image i c.kind.result c.words.result.now h ∙ sym (c.dump_size.ensures.value ∙ size)) in
    record {
      here = c.next-here.ensures i e;
      added = section_item_is_measured ids image Objects i item (from_item ids image Objects 0) (c.dump_size.result ∷ []) c.args.self.now c.loop-here.self c.add.new.self (object_item_is_its_dump ids image i h.object h.there) sized c.add.ensures.added c.loop-here.invariant.added;
      limit = omega (arith, c.loop-here.invariant.limit, c.add.ensures.limit, c.dump_size.ensures.limit);
      passed = number_after_place_within places i c.in-Some.at e;
    }

pub returns-clause-added : goal.returns-clause-added
returns-clause-added g c =
    let ids = g.V.View.ids c.args.view.now in
    let image = g.V.View.image c.args.view.now in
    let h = no_objects_past_places ids image (g.V.View.places c.args.view.now) c.loop-here.passed (sym c.in_default.is ∙ c.loop-here.invariant.here) c.classes-classes.ensures.placed in
    section_items_are_measured ids image Objects c.loop-here.passed (from_item ids image Objects 0) c.args.self.now c.loop-here.self h c.loop-here.invariant.added
