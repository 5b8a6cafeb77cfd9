-- What two searches by halves cut out are the rows of the process, and no other.
use Rattle.std.proofs.Common.{◌≤◌, length, take, drop, rules, ap, ◌∙◌}
use Rattle.std.proofs.lemmas.List.Sorted.{IsPartitionPoint-from_clause}
use Rattle.htl_lemmas.proofs.Lists.{rest_is}
use Rattle.htl_tables.proofs.ProcessRows.{is_below, is_there, below_parted, there_parted, together}
use Rattle.htl_tables.proofs.of_process.of_process.Goals as goal

pub returns : goal.returns
returns c =
    let rows = c.args.rows.now in
    let process = c.args.process in
    let start = c.partition_point-start.result in
    let len = c.partition_point-len.result in
    let below = IsPartitionPoint-from_clause (is_below process) rows start c.partition_point-start.ensures.partitioned
    (below_parted rows process c.requires) (λ a r q k. search rules) in
    let rest = rest_is rows start in
    let whole = rw rest at c.partition_point-len.ensures.partitioned in
    let there = IsPartitionPoint-from_clause (is_there process) (drop start rows) len whole
    (there_parted rows process c.requires start below) (λ a r q k. search rules) in
    let bound : len ≤ length (drop start rows) = rw rest at c.partition_point-len.ensures.bound in
    ap (take len) rest ∙ together rows process c.requires start below len bound there
