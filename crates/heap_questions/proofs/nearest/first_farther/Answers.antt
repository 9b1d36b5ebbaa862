use Rattle.std.proofs.Common.{leb, rules}
use Rattle.std.proofs.lemmas.List.Sorted.{IsPartitionPoint-from_clause, IsPartitionedBy-leb}
use Rattle.heap_questions.specs.declared.nearest.Start.{Start}
use Rattle.heap_questions.proofs.NearestStarts.{distances_rise, first_past}
use Rattle.heap_questions.proofs.nearest.first_farther.Goals as goal

pub returns-clause-place : goal.returns-clause-place
returns-clause-place c =
    let starts = c.args.starts.now in
    let parted = IsPartitionedBy-leb (λ (b : Start). b.distance) starts c.args.distance (distances_rise starts c.requires) in
    let point = IsPartitionPoint-from_clause (λ (b : Start). leb b.distance c.args.distance) starts c.partition_point.result c.partition_point.ensures.partitioned parted (λ a r q k. search rules) in
    first_past c.args.distance c.partition_point.result starts c.partition_point.ensures.bound point
