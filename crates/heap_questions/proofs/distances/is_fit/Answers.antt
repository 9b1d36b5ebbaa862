use Rattle.std.proofs.Common.{◌≢◌, ◌+◌, eqb-true, arith}
use Rattle.heap_questions.specs.Distances.{distance_by, far}
use Rattle.heap_questions.proofs.KnownDistances.{fit_by_goal, fit_by_step}
use Rattle.heap_questions.proofs.WaysBack.{id_told}
use Rattle.heap_questions.proofs.distances.is_fit.Goals as goal

pub returns-then-id-goal : goal.returns-then-id-goal
returns-then-id-goal g c = λ told.
    let nodes = c.args.nodes.now in
    let id = c.id-id.result in
    let distance = c.distance_at-distance.result in
    fit_by_goal (g.V.View.image c.args.view.now) (distance_by nodes c.args.table.now) c.args.goal nodes c.args.node id distance (λ y e. id_told nodes y c.args.node id e c.id-id.ensures) c.distance_at-distance.ensures c.if-id-goal.true (eqb-true distance 0 told)

pub returns : goal.returns
returns g c = λ told.
    let nodes = c.args.nodes.now in
    let id = c.id-id.result in
    let distance = c.distance_at-distance.result in
    let room : distance + 1 ≢ far = λ e. c.if-distance.false (omega (arith, e)) in
    fit_by_step (g.V.View.image c.args.view.now) (distance_by nodes c.args.table.now) c.args.goal nodes c.args.node id distance c.least_from.result c.one_more.result (λ y e. id_told nodes y c.args.node id e c.id-id.ensures) c.distance_at-distance.ensures
    room c.if-id-goal.false c.least_from.ensures c.one_more.ensures.below c.one_more.ensures.far (eqb-true distance c.one_more.result told)
