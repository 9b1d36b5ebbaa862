use Rattle.std.proofs.Common.{◌≡◌, ◌≤◌, length, subst, inl, inr, arith}
use Rattle.std.proofs.lemmas.Bool.{cases_lt}
use Rattle.heap_questions.specs.Distances.{IsFitNode, distance_by}
use Rattle.heap_questions.proofs.KnownDistances.{all_fit}
use Rattle.heap_questions.proofs.distances.are_distances.Goals as goal

pub loop-node-init : goal.loop-node-init
loop-node-init g c = λ k l. absurd (omega (arith, l))

pub loop-node-preserved : goal.loop-node-preserved
loop-node-preserved g c = λ k l. elim (cases_lt k c.loop-node.node) [
  | inl before ↦ c.loop-node.invariant k before
  | inr here ↦
      let image = g.V.View.image c.args.view.now in
      let d = distance_by c.args.nodes.now c.args.table.now in
      let same : c.loop-node.node ≡ k = omega (arith, here, l) in
      subst (IsFitNode image d c.args.goal c.args.nodes.now) same (c.is_fit.ensures c.if-not-is_fit.false)
]

pub returns : goal.returns
returns g c = λ told.
    let there = c.requires.goal in
    let all : length c.args.nodes.now ≤ c.loop-node.node = omega (arith, c.loop-node-test.false, c.loop-node.auto.node-end, c.len-node-end.ensures) in
    all_fit (g.V.View.image c.args.view.now) (g.V.View.places c.args.view.now) c.args.nodes.now c.args.table.now c.args.goal there.0 c.loop-node.node c.requires.nodes there.1 all c.loop-node.invariant
