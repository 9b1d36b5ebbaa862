use Rattle.std.proofs.Common.{◌≡◌, false, refl, ap, sym, subst, ◌∙◌, IsSome, Some, None}
use Rattle.std.specs.Prelude.{is_some}
use Rattle.std.proofs.lemmas.Option.{none-some, same_Some}
use Rattle.heap_class.specs.declared.ObjRef.{ObjRef}
use Rattle.heap_region.specs.Regions.{object_at, object_of, ref_of}
use Rattle.heap_world.specs.State.{HeapState}
use Rattle.heap_trail.specs.Trail.{Trail, state_ago}
use Rattle.heap_questions.proofs.PastTrails.{current_past, found_none}
use Rattle.heap_questions.proofs.past.trail.PastTrail.find.Goals as goal

pub returns-in_err-at : goal.returns-in_err-at
returns-in_err-at c =
    let t = c.self.inside.machine.now.trail in
    let ago = c.self.inside.ago in
    let e : c.args.self.now.current ≡ state_ago ago t = sym (ap (λ (u : Trail). u.current) c.self.view_is) ∙ current_past t ago in
    rw c.from_residual.ensures (subst (λ (w : HeapState). object_of w.regions c.args.id ≡ None) (sym e)
    (found_none (state_ago ago t).regions c.args.id None c.in_err-at.ensures.finds (λ at z. absurd (none-some at z))))

pub returns-then-has_object : goal.returns-then-has_object
returns-then-has_object c =
    let t = c.self.inside.machine.now.trail in
    let ago = c.self.inside.ago in
    let at = c.in_ok-at.at in
    let e : c.args.self.now.current ≡ state_ago ago t = sym (ap (λ (u : Trail). u.current) c.self.view_is) ∙ current_past t ago in
    let there : IsSome (object_at c.args.self.now.current.regions at) = sym c.has_object.ensures ∙ c.if-has_object.true in (
      subst (λ (w : HeapState). ref_of w.regions c.args.id ≡ Some at) (sym e) (c.in_ok-at.ensures.right at refl (subst (λ (w : HeapState). IsSome (object_at w.regions at)) e there)),
      there,
    )

pub returns-else-has_object : goal.returns-else-has_object
returns-else-has_object c =
    let t = c.self.inside.machine.now.trail in
    let ago = c.self.inside.ago in
    let at = c.in_ok-at.at in
    let e : c.args.self.now.current ≡ state_ago ago t = sym (ap (λ (u : Trail). u.current) c.self.view_is) ∙ current_past t ago in
    let none : is_some (object_at (state_ago ago t).regions at) ≡ false = ap (λ (w : HeapState). is_some (object_at w.regions at)) (sym e) ∙ sym c.has_object.ensures ∙ c.if-has_object.false in
    subst (λ (w : HeapState). object_of w.regions c.args.id ≡ None) (sym e)
    (found_none (state_ago ago t).regions c.args.id (Some at) c.in_ok-at.ensures.finds (λ b z. ap (λ (p : ObjRef). is_some (object_at (state_ago ago t).regions p)) (sym (same_Some at b z)) ∙ none))
