-- What the search by halves cuts off are the segments below the number.
use Rattle.std.proofs.Common.{ltb, rules}
use Rattle.std.proofs.lemmas.List.Sorted.{IsPartitionPoint-from_clause, IsPartitionedBy-ltb}
use Rattle.htl_main.proofs.FallingLaws.{split_is}
use Rattle.htl_main.proofs.folding.falling.split_at_number.Goals as goal

pub returns : goal.returns
returns c = λ p are.
    let held = c.args.held.now in
    let n = c.args.number in
    let len = c.partition_point.result in
    let point = IsPartitionPoint-from_clause (λ h. ltb h.number n) held len c.partition_point.ensures.partitioned
    (IsPartitionedBy-ltb (λ h. h.number) held n are.order) (λ a r q k. search rules) in
    rw (c.split_at.ensures.front, c.split_at.ensures.back) (split_is p n len held c.partition_point.ensures.bound point are)
