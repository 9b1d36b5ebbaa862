use Rattle.std.proofs.Common.{◌≡◌, ◌≤◌, ℕ, Bool, true, false, cond, sym, ap, ap₂, ◌∙◌, arith}
use Rattle.hprof_text.proofs.ViewedObjects.{all_objects_were_visited, number_after_place_within}
use Rattle.heap_questions.specs.Wanted.{is_wanted}
use Rattle.heap_questions.proofs.CountedObjects.{all_counted, one_counted}
use Rattle.heap_questions.proofs.NamedObjects.{view_tells_named_object}
use Rattle.heap_questions.proofs.past.counts.count_wanted.Goals as goal

at_most_one : (b : Bool) → cond b 1 0 ≤ 1
at_most_one true = omega arith
at_most_one false = omega arith

pub loop-here-preserved : goal.loop-here-preserved
loop-here-preserved g c =
    let v = c.args.view.now in
    let image = g.V.View.image v in
    let places = g.V.View.places v in
    let i = c.loop-here.passed in
    let at = c.in-Some.at in
    let e = sym c.loop-here.invariant.here ∙ c.in-Some.is in
    let h = view_tells_named_object image places i _ at c.kind.result c.words.result.now c.loop-here.invariant.here c.in-Some.is c.classes-classes.ensures.limits c.classes-classes.ensures.placed c.kind.ensures c.words.ensures in
    let same : is_wanted c.args.wanted c.kind.result c.words.result.now ≡ is_wanted c.args.wanted h.object.kind h.object.words = ap₂ (is_wanted c.args.wanted) h.same_kind h.same_words in
    let wanted : c.is_wanted.result ≡ is_wanted c.args.wanted h.object.kind h.object.words = c.is_wanted.ensures ∙ same in
    let one : c.one_if-count.result ≡ cond (is_wanted c.args.wanted h.object.kind h.object.words) 1 0 = c.one_if-count.ensures ∙ ap {B = ℕ} (λ (b : Bool). cond b 1 0) wanted in
    record {
      here = c.next-here.ensures i e;
      passed = number_after_place_within places i at e;
      few = omega (arith, c.loop-here.invariant.few, one, at_most_one (is_wanted c.args.wanted h.object.kind h.object.words));
      count = omega (arith, c.loop-here.invariant.count, one, one_counted c.args.wanted image i h.object h.there);
    }

pub returns : goal.returns
returns g c =
    let v = c.args.view.now in
    let image = g.V.View.image v in
    let all = all_objects_were_visited image (g.V.View.places v) c.loop-here.passed _ c.loop-here.invariant.here c.in_default.is c.loop-here.invariant.passed c.classes-classes.ensures.placed in
    c.loop-here.invariant.count ∙ all_counted c.args.wanted image c.loop-here.passed (omega (arith, all))
