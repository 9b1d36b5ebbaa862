use Rattle.std.proofs.Common.{ℕ, List, reverse, ap, ap₂, ◌∙◌}
use Rattle.std.specs.Prelude.{vec_capacity}
use Rattle.heap_mark.specs.declared.Phase.TheVariants.{Marking}
use Rattle.heap_mark.specs.MarkSteps.{unfinished}
use Rattle.heap_mark.specs.Marker.{MarkerState, at_work}
use Rattle.heap_region.specs.Regions.{Region}
use Rattle.heap_mark.proofs.TurnedRegions.{turn_back_undoes}
use Rattle.heap_mark.proofs.Calls.{at_work_after}
use Rattle.heap_mark.proofs.Finishes.{finish_undone_gives_state_before}
use Rattle.heap_mark.proofs.marker.Marker.unfinish.Goals as goal

pub returns-clause-marker : goal.returns-clause-marker
unfolding unfinished
returns-clause-marker c =
    let i = c.self.inside in
    let with_log : List ℕ → ℕ → MarkerState = λ l n. record { gray = reverse i.gray.items; room = vec_capacity i.gray; log = l; drained = n; phase = Marking } in
    rw (← c.self.view_is) (ap₂ with_log c.into_vec.ensures c.len-self-inside.ensures)

pub returns-clause-regions : goal.returns-clause-regions
unfolding unfinished
returns-clause-regions c =
    c.turn_all_back.ensures
    ∙ ap (λ (l : List Region). record c.args.regions.now { regions = l }) (turn_back_undoes c.requires.0 c.args.regions.now.regions c.requires.1 c.requires.2 c.requires.3)

pub returns-clause-back : goal.returns-clause-back
returns-clause-back c before accepted live within same is =
    let s = at_work c.args.regions.now.regions c.args.self.now in
    at_work_after c.args.regions.now _ c.args.self.now _ (unfinished c.args.log s) (returns-clause-marker c) (returns-clause-regions c) ∙ finish_undone_gives_state_before before s c.args.log accepted live within same is
