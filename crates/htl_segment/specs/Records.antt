-- Records where they lie in bytes.
use Rattle.std.specs.Prelude.{◌/◌, length}
use Rattle.htl_event.specs.Events.{Event}
use Rattle.htl_segment.specs.declared.record.Record.{Record}
use Rattle.htl_segment.specs.Numbers.{numbers}

-- the event that a record in place describes
abbrev pub event_of : Record → Event
event_of r = record {
  sequence = r.sequence;
  kind = r.kind;
  process = r.process;
  thread = r.thread;
  handle = r.handle;
  object = r.object;
  tag = r.tag;
  stack = numbers 0 (length r.frames.now / 8) r.frames.now;
}
