use Rattle.std.proofs.Common.{ltb, rules}
use Rattle.std.proofs.lemmas.List.Sorted.{IsPartitionPoint-from_clause, IsPartitionedBy-ltb}
use Rattle.heap_questions.specs.declared.nodes.Node.{Node}
use Rattle.heap_questions.proofs.Halving.{rising_ids, smaller_before, from_there}
use Rattle.heap_questions.proofs.nodes.first_by_halves.Goals as goal

pub returns-clause-below : goal.returns-clause-below
returns-clause-below c =
    let parted = IsPartitionedBy-ltb (λ (n : Node). n.id) _ c.args.id (rising_ids _ c.requires) in
    let point = IsPartitionPoint-from_clause (λ (n : Node). ltb n.id c.args.id) _ _ c.partition_point.ensures.partitioned parted (λ a r q k. search rules) in
    smaller_before _ _ _ point.0

pub returns-clause-above : goal.returns-clause-above
returns-clause-above c =
    let parted = IsPartitionedBy-ltb (λ (n : Node). n.id) _ c.args.id (rising_ids _ c.requires) in
    let point = IsPartitionPoint-from_clause (λ (n : Node). ltb n.id c.args.id) _ _ c.partition_point.ensures.partitioned parted (λ a r q k. search rules) in
    from_there _ _ _ point.1
