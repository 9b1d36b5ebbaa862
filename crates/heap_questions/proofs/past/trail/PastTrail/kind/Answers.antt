use Rattle.std.proofs.Common.{◌≡◌, ap, sym, subst, ◌∙◌, IsSome}
use Rattle.std.specs.Prelude.{IfSome}
use Rattle.heap_region.specs.Regions.{object_at}
use Rattle.heap_world.specs.State.{HeapState}
use Rattle.heap_trail.specs.Trail.{Trail, state_ago}
use Rattle.heap_questions.proofs.PastTrails.{current_past}
use Rattle.heap_questions.proofs.WrittenSlots.{shown_beside}
use Rattle.heap_questions.proofs.past.trail.PastTrail.kind.Goals as goal

pub kind_of-requires : goal.kind_of-requires
kind_of-requires c =
    let t = c.self.inside.machine.now.trail in
    let ago = c.self.inside.ago in
    let e : c.args.self.now.current ≡ state_ago ago t = sym (ap (λ (u : Trail). u.current) c.self.view_is) ∙ current_past t ago in (
      state_ago ago t,
      shown_beside t ago c.world.result.now c.in_ok-shown.shown c.world.ensures.value c.in_ok-shown.ensures.shown,
      subst (λ (w : HeapState). IsSome (object_at w.regions c.args.at)) e c.requires,
    )

pub returns-clause-kind : goal.returns-clause-kind
returns-clause-kind c =
    let t = c.self.inside.machine.now.trail in
    let ago = c.self.inside.ago in
    let e : c.args.self.now.current ≡ state_ago ago t = sym (ap (λ (u : Trail). u.current) c.self.view_is) ∙ current_past t ago in
    subst (λ (w : HeapState). IfSome (object_at w.regions c.args.at) (λ o. c.kind_of.result ≡ o.kind)) (sym e)
    (c.kind_of.ensures (state_ago ago t)
    (shown_beside t ago c.world.result.now c.in_ok-shown.shown c.world.ensures.value c.in_ok-shown.ensures.shown)
    (subst (λ (w : HeapState). IsSome (object_at w.regions c.args.at)) e c.requires))
