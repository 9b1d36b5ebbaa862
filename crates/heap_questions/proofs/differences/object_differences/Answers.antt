use Rattle.std.proofs.Common.{◌∙◌, ◌++◌, List, ap, ap₂, arith, subst, sym}
use Rattle.std.specs.Prelude.{flat_map}
use Rattle.std.proofs.lemmas.List.{take_all}
use Rattle.heap_class.specs.Classes.{Class}
use Rattle.hprof_text.specs.Image.{Image}
use Rattle.heap_questions.specs.Differences.{AreIdsOfBoth, IsKnownIf, differences_between, differences_of}
use Rattle.heap_questions.specs.Graph.{object_with}
use Rattle.heap_questions.specs.declared.differences.Difference.{Difference}
use Rattle.heap_questions.proofs.DifferentObjects.{found_object_is_known, rows_with_one_id_more}
use Rattle.heap_questions.proofs.differences.object_differences.Goals as goal

pub add_differences-requires-clause-old : goal.add_differences-requires-clause-old
add_differences-requires-clause-old g c =
    let image = g.V.View.image c.args.older.now in
    let x = c.index-id.result.now in
    let known = subst (λ (i : Image). IsKnownIf image.classes (object_with i x)) (sym c.in_ok-before.ensures.index) (found_object_is_known image x c.classes-old_classes.ensures.limits) in
    subst (λ (cs : List Class). IsKnownIf cs (object_with c.in_ok-before.before x)) (sym c.classes-old_classes.ensures.value) known

pub add_differences-requires-clause-new : goal.add_differences-requires-clause-new
add_differences-requires-clause-new g c =
    let image = g.V.View.image c.args.newer.now in
    let x = c.index-id.result.now in
    let known = subst (λ (i : Image). IsKnownIf image.classes (object_with i x)) (sym c.in_ok-after.ensures.index) (found_object_is_known image x c.classes-new_classes.ensures.limits) in
    subst (λ (cs : List Class). IsKnownIf cs (object_with c.in_ok-after.after x)) (sym c.classes-new_classes.ensures.value) known

pub loop-place-preserved : goal.loop-place-preserved
loop-place-preserved g c =
    let older = g.V.View.image c.args.older.now in
    let newer = g.V.View.image c.args.newer.now in
    let x = c.index-id.result.now in
    let first = ap₂ (λ (cs : List Class) (i : Image). differences_between x cs (object_with i x) c.classes-new_classes.result (object_with c.in_ok-after.after x)) c.classes-old_classes.ensures.value c.in_ok-before.ensures.index in
    let second = ap₂ (λ (cs : List Class) (i : Image). differences_between x older.classes (object_with older x) cs (object_with i x)) c.classes-new_classes.ensures.value c.in_ok-after.ensures.index in
    rows_with_one_id_more older newer c.in_ok-ids.ids.items c.loop-place.place x c.loop-place.rows.items c.add_differences.new.rows.items (omega (arith, c.loop-place-test.true, c.loop-place.auto.place-end, c.len-place-end.ensures)) c.index-id.ensures c.loop-place.invariant
    (c.in_ok-add_differences.ensures.added ∙ ap (λ (rs : List Difference). c.loop-place.rows.items ++ rs) (first ∙ second))

pub returns-clause-rows : goal.returns-clause-rows
returns-clause-rows g c =
    let older = g.V.View.image c.args.older.now in
    let newer = g.V.View.image c.args.newer.now in
    let ids = c.in_ok-ids.ids.items in
    let of_newer = subst (λ (i : Image). AreIdsOfBoth c.in_ok-before.before i ids) c.in_ok-after.ensures.index c.in_ok-ids.ensures in (
      ids,
      subst (λ (i : Image). AreIdsOfBoth i newer ids) c.in_ok-before.ensures.index of_newer,
      c.loop-place.invariant ∙ ap (flat_map (differences_of older newer)) (take_all c.loop-place.place ids (omega (arith, c.loop-place-test.false, c.loop-place.auto.place-end, c.len-place-end.ensures))),
    )
