-- The fields one after the other are the bytes of the event.
use Rattle.std.proofs.Common.{append_assoc}
use Rattle.htl_segment.specs.Encoding.{event_bytes}
use Rattle.htl_segment.proofs.encoding.push_record.Goals as goal

pub returns : goal.returns
unfolding event_bytes
returns c = rw (
  c.in_ok-push_frames.ensures,
  c.in_ok-extend_from_slice.ensures.items,
  c.in_ok-push_u64-2.ensures,
  c.in_ok-push_u32-3.ensures,
  c.in_ok-push_u32-2.ensures,
  c.in_ok-push_u32.ensures,
  c.in_ok-push_u16.ensures,
  c.in_ok-push-2.ensures.items,
  c.in_ok-push.ensures.items,
  c.in_ok-push_u64.ensures,
  c.code_of.ensures,
  c.frames-frames.ensures.value,
)
    (simp append_assoc)
