-- Events and segments may move to another thread, and threads may share them.
use denote.Param.Send.{IsSend, IsSync, sendable}
use Rattle.std.proofs.Crossing.{crosses}
use Rattle.htl_event.specs.contracts.shared_stack.Frames as frames
use Rattle.htl_event.specs.contracts.shared_stack.SharedStack as stack
use Rattle.htl_event.specs.contracts.event.Event as event
use Rattle.htl_segment.specs.contracts.segment.Segment as segment

frames_send : IsSend frames.the_row
frames_send = search (sendable, crosses) depth 20

frames_sync : IsSync frames.the_row
frames_sync = search (sendable, crosses) depth 20

stack_send : IsSend stack.the_row
stack_send = search (sendable, crosses, frames_send, frames_sync) depth 20

stack_sync : IsSync stack.the_row
stack_sync = search (sendable, crosses, frames_send, frames_sync) depth 20

-- an event may move to another thread
pub event_send : IsSend (event.the_row stack.the_row)
event_send = search (sendable, stack_send) depth 20

-- threads may share an event
pub event_sync : IsSync (event.the_row stack.the_row)
event_sync = search (sendable, stack_sync) depth 20

-- a segment may move to another thread
pub segment_send : IsSend segment.the_row
segment_send = search (sendable, crosses, event_send, event_sync) depth 20

-- threads may share a segment
pub segment_sync : IsSync segment.the_row
segment_sync = search (sendable, crosses, event_send, event_sync) depth 20
