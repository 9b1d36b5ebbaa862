use Rattle.std.proofs.Common.{◌≡◌, Some, sym, ap, ◌∙◌}
use Rattle.std.specs.Prelude.{slice_get}
use Rattle.hprof_text.specs.Image.{DumpedObject}
use Rattle.hprof_text.proofs.ViewedObjects.{all_objects_were_visited, fewer_places_left_after_next, is_there, next_place_is_visited}
use Rattle.heap_questions.proofs.NamedObjects.{object_is, object_none, others_more, said_of}
use Rattle.heap_questions.proofs.objects.object_with.Goals as goal

pub returns-then-id : goal.returns-then-id
returns-then-id g c =
    let image = g.V.View.image c.args.view.now in
    let i = c.loop-here.passed in
    let h = next_place_is_visited image (g.V.View.places c.args.view.now) i _ c.in-Some.at c.loop-here.invariant.here c.in-Some.is c.classes-classes.ensures.placed in
    let same = said_of (λ (o : DumpedObject). c.id.result ≡ o.id) (slice_get image.objects i) h.object h.there (c.id.ensures i h.led) in
    ap Some (said_of (λ (o : DumpedObject). c.object.result ≡ o) (slice_get image.objects i) h.object h.there (c.object.ensures i h.led))
    ∙ sym (object_is image c.args.id i h.object c.loop-here.invariant.others h.there (sym same ∙ c.if-id.true))

pub loop-here-smaller : goal.loop-here-smaller
loop-here-smaller g c = fewer_places_left_after_next (g.V.View.places c.args.view.now) c.loop-here.passed _ c.in-Some.at c.loop-here.invariant.here c.in-Some.is

pub loop-here-preserved : goal.loop-here-preserved
loop-here-preserved g c =
    let image = g.V.View.image c.args.view.now in
    let o = next_place_is_visited image (g.V.View.places c.args.view.now) c.loop-here.passed _ c.in-Some.at c.loop-here.invariant.here c.in-Some.is c.classes-classes.ensures.placed in
    let same = said_of (λ (o : DumpedObject). c.id.result ≡ o.id) (slice_get image.objects c.loop-here.passed) o.object o.there (c.id.ensures c.loop-here.passed o.led) in
    record {
      here = c.next-here.ensures c.loop-here.passed o.led;
      passed = o.passed;
      others = others_more image c.args.id c.loop-here.passed c.id.result o.object c.loop-here.invariant.others o.there same c.if-id.false;
    }

pub returns : goal.returns
returns g c =
    let image = g.V.View.image c.args.view.now in
    sym (object_none image c.args.id c.loop-here.passed c.loop-here.invariant.others (all_objects_were_visited image (g.V.View.places c.args.view.now) c.loop-here.passed _ c.loop-here.invariant.here c.in_default.is c.loop-here.invariant.passed c.classes-classes.ensures.placed))

pub id-requires : goal.id-requires
id-requires g c = is_there (g.V.View.places c.args.view.now) c.loop-here.passed c.in-Some.at (sym c.loop-here.invariant.here ∙ c.in-Some.is)

pub object-requires : goal.object-requires
object-requires g c = is_there (g.V.View.places c.args.view.now) c.loop-here.passed c.in-Some.at (sym c.loop-here.invariant.here ∙ c.in-Some.is)
