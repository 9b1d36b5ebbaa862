use Rattle.std.proofs.Common.{ap, sym, ◌∙◌}
use Rattle.std.specs.Prelude.{is_some}
use Rattle.heap_region.specs.Regions.{object_at}
use Rattle.heap_world.specs.State.{HeapState}
use Rattle.heap_trail.specs.Trail.{Trail}
use Rattle.heap_questions.proofs.PastTrails.{current_past}
use Rattle.heap_questions.proofs.past.trail.PastTrail.has_object.Goals as goal

pub returns : goal.returns
returns c =
    c.stood_ago.ensures
    ∙ ap (λ (w : HeapState). is_some (object_at w.regions c.args.at)) (sym (current_past c.self.inside.machine.now.trail c.self.inside.ago) ∙ ap (λ (t : Trail). t.current) c.self.view_is)
