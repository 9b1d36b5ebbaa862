use Rattle.std.proofs.Common.{◌≡◌, take, false, length, replicate, sym, ap, ap₂, ◌+◌, ◌∙◌, subst, arith, rules}
use Rattle.std.specs.Prelude.{slice_index_or}
use Rattle.hprof_text.specs.Image.{IsKnown}
use Rattle.hprof_text.proofs.ViewedObjects.{all_objects_were_visited, fewer_places_left_after_next, is_there, number_after_place_within}
use Rattle.heap_questions.specs.Histogram.{AreRows, class_rows, counted_unless, no_objects, object_bytes, row_number, without_marked, value_size}
use Rattle.heap_questions.proofs.Counting.{rows_begin, rows_more, rows_end, room_among}
use Rattle.heap_questions.proofs.NamedObjects.{view_tells_named_object}
use Rattle.heap_questions.proofs.rows.count_unmarked.Goals as goal

pub loop-here-init : goal.loop-here-init
loop-here-init g c =
    let v = c.args.view.now in
    let n = c.len.ensures.value ∙ ap length c.classes-classes.ensures.value in
    record {
      here = c.first-here.ensures;
      rows = rows_begin (g.V.View.ids v) (g.V.View.image v).classes c.args.marks.now (g.V.View.image v).objects c.in_ok-rows.rows.items
          (c.in_ok-rows.ensures.items_if_clones_equal (λ y h. search rules) ∙ ap (λ m. replicate (class_rows + m) no_objects) n);
      passed = omega arith;
    }

pub kind-kind-requires : goal.kind-kind-requires
kind-kind-requires g c = is_there (g.V.View.places c.args.view.now) c.loop-here.passed c.in-Some.at (sym c.loop-here.invariant.here ∙ c.in-Some.is)

pub words-requires : goal.words-requires
words-requires g c = is_there (g.V.View.places c.args.view.now) c.loop-here.passed c.in-Some.at (sym c.loop-here.invariant.here ∙ c.in-Some.is)

pub value_size-bytes-requires-clause-known : goal.value_size-bytes-requires-clause-known
value_size-bytes-requires-clause-known g c =
    let h = view_tells_named_object (g.V.View.image c.args.view.now) (g.V.View.places c.args.view.now) c.loop-here.passed _ c.in-Some.at c.kind-kind.result c.words.result.now c.loop-here.invariant.here c.in-Some.is c.classes-classes.ensures.limits c.classes-classes.ensures.placed c.kind-kind.ensures c.words.ensures in
    subst (λ cs. IsKnown cs c.kind-kind.result (length c.words.result.now)) (sym c.classes-classes.ensures.value) h.known

pub value_size-bytes-requires-clause-small : goal.value_size-bytes-requires-clause-small
value_size-bytes-requires-clause-small g c =
    let h = view_tells_named_object (g.V.View.image c.args.view.now) (g.V.View.places c.args.view.now) c.loop-here.passed _ c.in-Some.at c.kind-kind.result c.words.result.now c.loop-here.invariant.here c.in-Some.is c.classes-classes.ensures.limits c.classes-classes.ensures.placed c.kind-kind.ensures c.words.ensures in
    h.small

pub row_number-index-requires : goal.row_number-index-requires
row_number-index-requires g c =
    let h = view_tells_named_object (g.V.View.image c.args.view.now) (g.V.View.places c.args.view.now) c.loop-here.passed _ c.in-Some.at c.kind-kind.result c.words.result.now c.loop-here.invariant.here c.in-Some.is c.classes-classes.ensures.limits c.classes-classes.ensures.placed c.kind-kind.ensures c.words.ensures in
    subst (λ cs. IsKnown cs c.kind-kind.result (length c.words.result.now)) (sym c.classes-classes.ensures.value) h.known

pub loop-here-smaller : goal.loop-here-smaller
loop-here-smaller g c = fewer_places_left_after_next (g.V.View.places c.args.view.now) c.loop-here.passed _ c.in-Some.at c.loop-here.invariant.here c.in-Some.is

pub loop-here-preserved : goal.loop-here-preserved
loop-here-preserved g c =
    let v = c.args.view.now in
    let ids = g.V.View.ids v in
    let image = g.V.View.image v in
    let i = c.loop-here.passed in
    let at = c.in-Some.at in
    let rows = c.loop-here.rows.items in
    let e = sym c.loop-here.invariant.here ∙ c.in-Some.is in
    let h = view_tells_named_object image (g.V.View.places v) i _ at c.kind-kind.result c.words.result.now c.loop-here.invariant.here c.in-Some.is c.classes-classes.ensures.limits c.classes-classes.ensures.placed c.kind-kind.ensures c.words.ensures in
    let o = h.object in
    let k : c.row_number-index.result ≡ row_number o.kind = c.row_number-index.ensures.value ∙ ap row_number h.same_kind in
    let n : c.value_size-bytes.result ≡ object_bytes ids image.classes o =
    c.value_size-bytes.ensures.value
    ∙ ap₂ (λ s cs. value_size s cs c.kind-kind.result (length c.words.result.now)) c.id_size-ids.ensures c.classes-classes.ensures.value
    ∙ ap₂ (λ k ws. value_size ids image.classes k (length ws)) h.same_kind h.same_words in
    let many = ap length c.classes-classes.ensures.value in
    let m = rows_more ids image.classes c.args.marks.now image.objects i rows o c.loop-here.invariant.rows h.there
    (omega (arith, k, many, c.row_number-index.ensures.within, c.loop-here.invariant.rows.count))
    (omega (arith, n, c.value_size-bytes.ensures.limit)) in
    let same = c.count.ensures ∙ ap (λ b. counted_unless b c.row_number-index.result c.value_size-bytes.result rows) c.mark_at.ensures ∙ ap₂ (λ k n. counted_unless (slice_index_or c.args.marks.now i false) k n rows) k n in
    record {
      here = c.next-here.ensures i e;
      rows = subst (AreRows ids image.classes (without_marked c.args.marks.now (take (i + 1) image.objects))) (sym same) m;
      passed = number_after_place_within (g.V.View.places v) i at e;
    }

pub count-requires-clause-within : goal.count-requires-clause-within
count-requires-clause-within g c =
    let many = ap length c.classes-classes.ensures.value in
    omega (arith, many, c.row_number-index.ensures.within, c.loop-here.invariant.rows.count)

pub count-requires-clause-objects : goal.count-requires-clause-objects
count-requires-clause-objects g c =
    let r = room_among (g.V.View.ids c.args.view.now) (g.V.View.image c.args.view.now) _ c.args.marks.now c.loop-here.passed c.loop-here.rows.items c.row_number-index.result c.loop-here.invariant.rows (omega (arith, c.loop-here.invariant.passed, c.classes-classes.ensures.placed)) c.classes-classes.ensures.value c.row_number-index.ensures.within in
    omega (arith, r.0, c.loop-here.invariant.passed, c.classes-classes.ensures.placed, c.classes-classes.ensures.limits.few_objects)

pub count-requires-clause-bytes : goal.count-requires-clause-bytes
count-requires-clause-bytes g c =
    let r = room_among (g.V.View.ids c.args.view.now) (g.V.View.image c.args.view.now) _ c.args.marks.now c.loop-here.passed c.loop-here.rows.items c.row_number-index.result c.loop-here.invariant.rows (omega (arith, c.loop-here.invariant.passed, c.classes-classes.ensures.placed)) c.classes-classes.ensures.value c.row_number-index.ensures.within in
    omega (arith, r.1, c.value_size-bytes.ensures.limit, c.loop-here.invariant.passed, c.classes-classes.ensures.placed, c.classes-classes.ensures.limits.few_objects)

pub returns-clause-rows : goal.returns-clause-rows
returns-clause-rows g c =
    let v = c.args.view.now in
    let e = all_objects_were_visited (g.V.View.image v) (g.V.View.places v) c.loop-here.passed _ c.loop-here.invariant.here c.in_default.is c.loop-here.invariant.passed c.classes-classes.ensures.placed in
    rows_end (g.V.View.ids v) (g.V.View.image v).classes c.args.marks.now (g.V.View.image v).objects c.loop-here.passed c.loop-here.rows.items c.loop-here.invariant.rows e
