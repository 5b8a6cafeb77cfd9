-- What the search by halves cuts off are the outlines of the processor.
use Rattle.std.proofs.Common.{leb, rules}
use Rattle.std.proofs.lemmas.List.Sorted.{IsPartitionPoint-from_clause}
use Rattle.htl_evidence.proofs.OfProcessor.{behind_cut, own_cut, parted}
use Rattle.htl_evidence.proofs.outlines.split_at_processor.Goals as goal

pub returns-clause-own : goal.returns-clause-own
returns-clause-own c = λ in_order none_before.
    let os = c.args.outlines.now in
    let p = c.args.processor in
    let len = c.partition_point.result in
    let point = IsPartitionPoint-from_clause (λ o. leb o.processor p) os len c.partition_point.ensures.partitioned
    (parted p os in_order) (λ a r q k. search rules) in
    rw (c.split_at.ensures.front) (own_cut p len os c.partition_point.ensures.bound point none_before)

pub returns-clause-after : goal.returns-clause-after
returns-clause-after c = λ in_order.
    let os = c.args.outlines.now in
    let p = c.args.processor in
    let len = c.partition_point.result in
    let point = IsPartitionPoint-from_clause (λ o. leb o.processor p) os len c.partition_point.ensures.partitioned
    (parted p os in_order) (λ a r q k. search rules) in
    rw (c.split_at.ensures.back) (behind_cut p len os c.partition_point.ensures.bound point)
