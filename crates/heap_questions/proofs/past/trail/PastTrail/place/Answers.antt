use Rattle.std.proofs.Common.{ℕ, ◌-◌, ap, sym, subst, ◌∙◌}
use Rattle.heap_trail.specs.Trail.{Trail}
use Rattle.heap_questions.specs.PastTrails.{IsPast}
use Rattle.heap_questions.proofs.PastTrails.{is_past, place_past}
use Rattle.heap_questions.proofs.past.trail.PastTrail.place.Goals as goal

pub returns-clause-value : goal.returns-clause-value
returns-clause-value c =
    let ago = c.self.inside.ago in
    ap (λ (p : ℕ). p - ago) c.place.ensures.value ∙ sym (place_past c.self.inside.machine.now.trail ago) ∙ ap (λ (t : Trail). t.place) c.self.view_is

pub returns-clause-trail : goal.returns-clause-trail
returns-clause-trail c = subst IsPast c.self.view_is (is_past c.self.inside.machine.now c.self.inside.ago c.self.invariant c.place.ensures.trail)
