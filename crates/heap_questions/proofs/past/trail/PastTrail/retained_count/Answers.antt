use Rattle.std.proofs.Common.{ℕ, ◌-◌, ap, sym, ◌∙◌}
use Rattle.heap_trail.specs.Trail.{retained}
use Rattle.heap_trail.proofs.Rewinds.{retained_after_rewind}
use Rattle.heap_questions.proofs.past.trail.PastTrail.retained_count.Goals as goal

pub returns : goal.returns
returns c =
    let ago = c.self.inside.ago in
    ap (λ (n : ℕ). n - ago) c.retained_count.ensures ∙ sym (retained_after_rewind ago c.self.inside.machine.now.trail) ∙ ap retained c.self.view_is
