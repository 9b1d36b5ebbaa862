use Rattle.std.proofs.Common.{◌≡◌, ◌+◌, [], ◌∷◌, refl, sym, ap, ◌∙◌, arith}
use Rattle.std.specs.Prelude.{slice_get}
use Rattle.hprof_text.specs.Cursors.{from_item}
use Rattle.hprof_text.specs.SegmentFilling.{body_filled}
use Rattle.hprof_text.specs.Text.{dump_of}
use Rattle.hprof_text.specs.declared.Cursor.TheVariants.{Object}
use Rattle.hprof_text.specs.declared.section.Section.TheVariants.{Objects}
use Rattle.hprof_text.proofs.FilledSegments.{one_sub_record_item_offered, taken_item_fills_body, item_not_taken_is_left, all_items_fill_body}
use Rattle.hprof_text.proofs.NumberedPieces.{body_filled_to_cursor}
use Rattle.hprof_text.proofs.ViewedObjects.{object_viewed_at_place, is_there, object_record, number_after_place_within, no_objects_past_places, part_of_object}
use Rattle.hprof_text.proofs.segment.Segment.fill_objects.Goals as goal

pub returns-then-not-taken-clause-filled : goal.returns-then-not-taken-clause-filled
returns-then-not-taken-clause-filled g c = λ n b l.
    let v = c.args.view.now in
    let ids = g.V.View.ids v in
    let image = g.V.View.image v in
    let places = g.V.View.places v in
    let i = n + c.loop-here.passed in
    let at = c.in-Some.at in
    let e = sym (c.loop-here.invariant.here n b) ∙ c.in-Some.is in
    let x = dump_of c.id_size-ids.result c.classes-classes.result c.id.result c.kind.result c.words.result.now in
    let s = c.object-object.ensures i e in
    let r = object_record ids image places i at c.id_size-ids.result c.classes-classes.result c.id.result c.kind.result c.words.result.now c.classes-classes.ensures.limits c.classes-classes.ensures.placed e c.id_size-ids.ensures c.classes-classes.ensures.value (part_of_object (λ o. o.id) (slice_get image.objects i) c.object-object.result _ c.id.ensures s) (part_of_object (λ o. o.kind) (slice_get image.objects i) c.object-object.result _ c.kind.ensures s) (part_of_object (λ o. o.words) (slice_get image.objects i) c.object-object.result _ c.words.ensures s) in
    let o = one_sub_record_item_offered x c.loop-here.self c.offer_object.new.self c.in_ok-taken.taken c.in_ok-taken.ensures.taken in
    body_filled_to_cursor ids image places (from_item ids image Objects n) (Object at) c.args.self.now c.offer_object.new.self (from_item ids image Objects i)
    (item_not_taken_is_left ids image Objects i n (x ∷ []) c.args.self.now c.loop-here.self c.offer_object.new.self c.in_ok-taken.taken r c.if-not-taken.true o (c.loop-here.invariant.filled n b)) (i, e, refl)

pub offer_object-requires-clause-small : goal.offer_object-requires-clause-small
offer_object-requires-clause-small g c =
    let v = c.args.view.now in
    let i = c.requires.0 + c.loop-here.passed in
    let e = sym (c.loop-here.invariant.here c.requires.0 c.requires.1) ∙ c.in-Some.is in
    let image = g.V.View.image v in
    let s = c.object-object.ensures i e in
    (object_viewed_at_place image (g.V.View.places v) i c.in-Some.at c.kind.result c.words.result.now c.classes-classes.ensures.limits c.classes-classes.ensures.placed e (part_of_object (λ o. o.kind) (slice_get image.objects i) c.object-object.result _ c.kind.ensures s) (part_of_object (λ o. o.words) (slice_get image.objects i) c.object-object.result _ c.words.ensures s)).small

pub loop-here-smaller : goal.loop-here-smaller
loop-here-smaller g c =
    let n = c.requires.0 in
    let e = sym (c.loop-here.invariant.here n c.requires.1) ∙ c.in-Some.is in
    let w = number_after_place_within (g.V.View.places c.args.view.now) (n + c.loop-here.passed) c.in-Some.at e in
    omega (arith, w)

pub loop-here-preserved : goal.loop-here-preserved
loop-here-preserved g c =
    let v = c.args.view.now in
    let ids = g.V.View.ids v in
    let image = g.V.View.image v in
    let places = g.V.View.places v in
    let at = c.in-Some.at in
    let x = dump_of c.id_size-ids.result c.classes-classes.result c.id.result c.kind.result c.words.result.now in
    let p = c.loop-here.passed in
    record {
      here = λ n b.
          let e = sym (c.loop-here.invariant.here n b) ∙ c.in-Some.is in
          let s : n + p + 1 ≡ n + (p + 1) = omega arith in
          c.next-here.ensures (n + p) e ∙ ap (slice_get places) s;
      passed = λ n b l. omega (arith, number_after_place_within places (n + p) at (sym (c.loop-here.invariant.here n b) ∙ c.in-Some.is));
      filled = λ n b.
          let i = n + p in
          let e = sym (c.loop-here.invariant.here n b) ∙ c.in-Some.is in
          let shown = c.object-object.ensures i e in
          let r = object_record ids image places i at c.id_size-ids.result c.classes-classes.result c.id.result c.kind.result c.words.result.now c.classes-classes.ensures.limits c.classes-classes.ensures.placed e c.id_size-ids.ensures c.classes-classes.ensures.value (part_of_object (λ o. o.id) (slice_get image.objects i) c.object-object.result _ c.id.ensures shown) (part_of_object (λ o. o.kind) (slice_get image.objects i) c.object-object.result _ c.kind.ensures shown) (part_of_object (λ o. o.words) (slice_get image.objects i) c.object-object.result _ c.words.ensures shown) in
          let o = one_sub_record_item_offered x c.loop-here.self c.offer_object.new.self c.in_ok-taken.taken c.in_ok-taken.ensures.taken in
          let s : n + p + 1 ≡ n + (p + 1) = omega arith in
          taken_item_fills_body ids image Objects i n (x ∷ []) c.args.self.now c.loop-here.self c.offer_object.new.self c.in_ok-taken.taken r c.if-not-taken.false o (c.loop-here.invariant.filled n b)
          ∙ ap (λ k. body_filled c.offer_object.new.self (from_item ids image Objects k)) s;
    }

pub returns-clause-filled : goal.returns-clause-filled
returns-clause-filled g c = λ n b l.
    let v = c.args.view.now in
    let ids = g.V.View.ids v in
    let image = g.V.View.image v in
    let i = n + c.loop-here.passed in
    let h = no_objects_past_places ids image (g.V.View.places v) i (sym c.in_default.is ∙ c.loop-here.invariant.here n b) c.classes-classes.ensures.placed in
    all_items_fill_body ids image Objects i n c.args.self.now c.loop-here.self h (c.loop-here.invariant.filled n b)

pub object-object-requires : goal.object-object-requires
object-object-requires g c = is_there (g.V.View.places c.args.view.now) (c.requires.0 + c.loop-here.passed) c.in-Some.at (sym (c.loop-here.invariant.here c.requires.0 c.requires.1) ∙ c.in-Some.is)
