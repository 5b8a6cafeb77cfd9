-- The segment that the bytes begin with is the one that is read.
use Rattle.htl_state.proofs.HeldRead.{segment_here}
use Rattle.htl_state.proofs.held_row.SegmentRow.read.Goals as goal

pub returns-in-Ok : goal.returns-in-Ok
returns-in-Ok c =
    rw (segment_here c.args.setting c.args.bytes.now c.in-Ok.len c.in-Ok.segment c.in-Ok.ensures.found)
    (rw c.behind.ensures at c.of_part.ensures)
