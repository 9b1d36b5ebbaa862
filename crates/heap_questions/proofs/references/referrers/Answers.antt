use Rattle.std.proofs.Common.{◌≤◌, ◌++◌, length, sym, ap, ap₂, ◌∙◌, arith}
use Rattle.std.specs.Prelude.{flat_map}
use Rattle.std.proofs.lemmas.List.{take_all}
use Rattle.hprof_text.proofs.ViewedObjects.{object_viewed_at_place, is_there, number_after_place_within, no_next_place_is_past_all}
use Rattle.heap_questions.specs.Referrers.{naming_slots, naming_registers}
use Rattle.heap_questions.proofs.Passing.{same_object, slots_more}
use Rattle.heap_questions.proofs.references.referrers.Goals as goal

pub returns-clause-all : goal.returns-clause-all
returns-clause-all g c =
    let v = c.args.view.now in
    let image = g.V.View.image v in
    let i = c.loop-here.passed in
    let n = no_next_place_is_past_all (g.V.View.places v) i (sym c.in_default.is ∙ c.loop-here.invariant.here) in
    let e : length image.objects ≤ i = omega (arith, n, c.classes-classes.ensures.placed) in
    c.loop-here.invariant.named ∙ ap (λ os. naming_registers c.args.id image.registers ++ flat_map (naming_slots image.classes c.args.id) os) (take_all i image.objects e)

pub loop-here-preserved : goal.loop-here-preserved
loop-here-preserved g c =
    let v = c.args.view.now in
    let image = g.V.View.image v in
    let i = c.loop-here.passed in
    let at = c.in-Some.at in
    let e = sym c.loop-here.invariant.here ∙ c.in-Some.is in
    let h = object_viewed_at_place image (g.V.View.places v) i at c.kind.result c.words.result.now c.classes-classes.ensures.limits c.classes-classes.ensures.placed e (c.kind.ensures i e) (c.words.ensures i e) in
    let o = h.object in
    let same = same_object image i o c.id.result c.kind.result c.words.result.now h.there (c.id.ensures i e) h.same_kind h.same_words in
    record {
      here = c.next-here.ensures i e;
      named = slots_more image.classes c.args.id image.objects i o (naming_registers c.args.id image.registers) c.loop-here.all.items c.add_slots.new.all.items h.there c.loop-here.invariant.named
          (c.in_ok-add_slots.ensures.added ∙ ap₂ (λ cs o. c.loop-here.all.items ++ naming_slots cs c.args.id o) c.classes-classes.ensures.value same);
      passed = number_after_place_within (g.V.View.places v) i at e;
    }

pub id-requires : goal.id-requires
id-requires g c = is_there (g.V.View.places c.args.view.now) c.loop-here.passed c.in-Some.at (sym c.loop-here.invariant.here ∙ c.in-Some.is)

pub kind-requires : goal.kind-requires
kind-requires g c = is_there (g.V.View.places c.args.view.now) c.loop-here.passed c.in-Some.at (sym c.loop-here.invariant.here ∙ c.in-Some.is)

pub words-requires : goal.words-requires
words-requires g c = is_there (g.V.View.places c.args.view.now) c.loop-here.passed c.in-Some.at (sym c.loop-here.invariant.here ∙ c.in-Some.is)
