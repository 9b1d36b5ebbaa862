use Rattle.std.proofs.Common.{◌≡◌, ◌∙◌, None, Some, IsSome, ap, sym, subst}
use Rattle.std.proofs.lemmas.Bool.{false≢true}
use Rattle.heap_region.specs.Regions.{Object, object_at, object_of, ref_of}
use Rattle.std.specs.Prelude.{IfSome, Option}
use Rattle.heap_world.specs.State.{HeapState}
use Rattle.heap_trail.specs.Trail.{Trail, state_ago}
use Rattle.heap_questions.specs.Losses.{IsLossOf}
use Rattle.heap_questions.specs.Lives.{IsLifeIf, IsLifeTo}
use Rattle.heap_questions.specs.declared.past.lives.Life.{Life}
use Rattle.heap_questions.proofs.PastTrails.{current_past}
use Rattle.heap_questions.proofs.past.lives.life_if.Goals as goal

pub returns-in_default-clause-life : goal.returns-in_default-clause-life
returns-in_default-clause-life c =
    let t = c.args.machine.now.trail in
    let m = c.args.newest in
    let e : c.new-past.result.current ≡ state_ago m t = ap (λ (u : Trail). u.current) c.new-past.ensures ∙ current_past t m in
    let none : object_of (state_ago m t).regions c.args.id ≡ None = ap (λ (w : HeapState). object_of w.regions c.args.id) (sym e) ∙ c.in_default.ensures in
    absurd (false≢true (subst (λ (x : Option Object). IsSome x) none (c.requires.there c.if-not-asked.false)))

pub returns-clause-life : goal.returns-clause-life
returns-clause-life c =
    let t = c.args.machine.now.trail in
    let m = c.args.newest in
    let e : c.new-past.result.current ≡ state_ago m t = ap (λ (u : Trail). u.current) c.new-past.ensures ∙ current_past t m in
    let l : Life = record { kind = c.in_ok-kind.kind; born = c.born_ago.result; lost = c.in_ok-lost.lost; swept = c.swept_ago.result } in
    let told : IsLifeTo t c.args.id c.args.oldest m l = record {
      at = c.in-Some.at;
      named = ap (λ (w : HeapState). ref_of w.regions c.args.id) (sym e) ∙ c.in-Some.ensures.0;
      kind = subst (λ (w : HeapState). IfSome (object_at w.regions c.in-Some.at) (λ o. c.in_ok-kind.kind ≡ o.kind)) e c.in_ok-kind.ensures.kind;
      born = c.born_ago.ensures;
      lost = subst (λ (u : Trail). IsLossOf u c.in-Some.at c.in_ok-lost.lost) c.new-past.ensures c.in_ok-lost.ensures.loss;
      swept = c.swept_ago.ensures;
    } in
    subst (λ b. IsLifeIf t c.args.id c.args.oldest m b (Some l)) (sym c.if-not-asked.false) told
