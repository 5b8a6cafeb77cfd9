-- What the search by halves cuts off are the events until the moment.
use Rattle.std.proofs.Common.{leb, rules}
use Rattle.std.proofs.lemmas.List.Sorted.{IsPartitionPoint-from_clause}
use Rattle.htl_event.proofs.Untils.{parted, take-passes}
use Rattle.htl_event.proofs.until.up_to.Goals as goal

pub returns : goal.returns
returns c = λ rising.
    let es = c.args.events.now in
    let moment = c.args.moment in
    let len = c.partition_point.result in
    let point = IsPartitionPoint-from_clause (λ e. leb e.sequence moment) es len c.partition_point.ensures.partitioned
    (parted moment es rising) (λ a r q k. search rules) in
    take-passes (λ e. leb e.sequence moment) es len c.partition_point.ensures.bound point
