use Rattle.std.proofs.Common.{arith}
use Rattle.heap_questions.specs.declared.nodes.Node.{Node}
use Rattle.heap_questions.proofs.Halving.{found_by_halves, none_by_halves}
use Rattle.heap_questions.proofs.nodes.node_with.Goals.{else-first-nodes-via-then-first-nodes+else-nodes-first, else-first-nodes-via-else-first-nodes}
use Rattle.heap_questions.proofs.nodes.node_with.Goals as goal

pub returns-then-nodes-first : goal.returns-then-nodes-first
returns-then-nodes-first c =
    let none : Node = record { at = record { region = 0; cell = 0 }; id = 0 } in
    found_by_halves c.args.nodes.now c.first_by_halves-first.result c.args.id none c.first_by_halves-first.ensures.below c.if-first-nodes.true c.if-nodes-first.true

pub returns-else-first-nodes : goal.returns-else-first-nodes
returns-else-first-nodes c =
    let none : Node = record { at = record { region = 0; cell = 0 }; id = 0 } in
    let rising = c.requires c.if-not-rising.false in
    let e = c.first_by_halves-first.ensures in
    elim c.else-first-nodes.branch [
      | else-first-nodes-via-then-first-nodes+else-nodes-first w ↦
          none_by_halves c.args.nodes.now c.first_by_halves-first.result c.args.id none e.below e.above e.within (λ h. w.if-nodes-first.false) rising
      | else-first-nodes-via-else-first-nodes w ↦
          none_by_halves c.args.nodes.now c.first_by_halves-first.result c.args.id none e.below e.above e.within (λ h. absurd (omega (arith, h, w.if-first-nodes.false))) rising
    ]
