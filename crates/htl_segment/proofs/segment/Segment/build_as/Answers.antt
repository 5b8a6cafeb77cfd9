-- Parts without a fault fit.
use Rattle.std.proofs.Common.{arith}
use Rattle.htl_segment.proofs.BuildingLaws.{parts_fit}
use Rattle.htl_segment.proofs.segment.Segment.build_as.Goals as goal

pub new-requires : goal.new-requires
new-requires c =
    rw (c.in-Ok-share.ensures, c.deref-in-Ok.ensures.value)
    (rw c.deref.ensures.value at (parts_fit _ (omega arith) c.in-Ok.ensures.in_range (c.in-Ok.ensures.fault c.args.trace_id)))
