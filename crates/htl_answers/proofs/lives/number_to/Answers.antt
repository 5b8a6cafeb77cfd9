-- The place that the search by halves finds is the number of the sequences before it.
use Rattle.std.proofs.Common.{leb, rules}
use Rattle.std.proofs.lemmas.List.Sorted.{IsPartitionPoint-from_clause, IsPartitionedBy-leb}
use Rattle.htl_answers.proofs.NumbersTo.{point-number_to}
use Rattle.htl_answers.proofs.lives.number_to.Goals as goal

pub returns : goal.returns
returns c =
    let xs = c.args.sequences.now in
    let m = c.args.moment in
    let len = c.partition_point.result in
    let point = IsPartitionPoint-from_clause (λ x. leb x m) xs len c.partition_point.ensures.partitioned
    (IsPartitionedBy-leb (λ x. x) xs m c.requires) (λ a r q k. search rules) in
    point-number_to xs m len c.partition_point.ensures.bound point
