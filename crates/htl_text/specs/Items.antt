-- What the lines of a text say (this project's own), one item each.
use Rattle.std.specs.Prelude.{List, ◌∷◌, map, flat_map}
use Rattle.htl_event.specs.Events.{Event, with_stack}
use Rattle.htl_event.specs.declared.event.Event.{Event as EventWith}
use Rattle.htl_segment.specs.Content.{Content}
use Rattle.htl_segment.specs.Versions.{version_number}
use Rattle.htl_text.specs.declared.item.Head.{Head}
use Rattle.htl_text.specs.declared.item.Item.{Item}
use Rattle.htl_text.specs.declared.item.Item.TheVariants as item

-- an event without its stack
abbrev pub LoneEvent : Type 0
LoneEvent = EventWith (Unit {0})

abbrev pub without_stack : Event → LoneEvent
without_stack e = with_stack tt e

-- an event, and then its frames, the innermost call first
abbrev pub event_items : Event → List Item
event_items e = item.Event (without_stack e) ∷ map item.Frame e.stack

-- what lines say of a segment, whether or not the format can encode it
pub record Draft : Type 0 where
  pub head : Head
  pub events : List Event

abbrev pub draft_items : Draft → List Item
draft_items d = item.Segment d.head ∷ flat_map event_items d.events

abbrev pub head_of : Content → Head
head_of s = record {
  version = version_number s.version;
  trace_id = s.trace_id;
  processors = s.processors;
  processor = s.processor;
  number = s.number;
}

abbrev pub draft_of : Content → Draft
draft_of s = record { head = head_of s; events = s.events }

-- segments one after another
abbrev pub segments_items : List Content → List Item
segments_items segments = flat_map (λ s. draft_items (draft_of s)) segments
