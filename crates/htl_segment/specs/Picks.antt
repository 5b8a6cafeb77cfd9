-- What is kept of segments for a question (this project's own).
use Rattle.std.specs.Prelude.{◌≡◌, List, flat_map, map}
use Rattle.std.specs.Global.{Vec}
use Rattle.htl_event.specs.Events.{Event}
use Rattle.htl_event.specs.Interests.{wanted}
use Rattle.htl_event.specs.declared.interest.Interest.{Interest}
use Rattle.htl_segment.specs.Content.{Content}
use Rattle.htl_segment.specs.Traces.{all_events}
use Rattle.htl_segment.specs.Outlines.{outline_of}
use Rattle.htl_segment.specs.Repeated.{sequences_of}
use Rattle.htl_segment.specs.Seen.{Saw}
use Rattle.htl_segment.specs.declared.picks.Picks.{Picks}

-- the events of lists, one after the other
abbrev pub events_in : List (Vec Event) → List Event
events_in lists = flat_map (λ list. list.items) lists

-- They are the picks of these segments: an outline of each, the events that are asked about, and the sequences of all.
pub record ArePicksOf (interest : Interest) (picks : Picks) (segments : List Content) : Type 0 where
  pub about : picks.interest ≡ interest
  pub outlines : picks.outlines.items ≡ map outline_of segments
  pub events : events_in picks.lists.items ≡ wanted interest (all_events segments)
  pub saw : Saw picks.seen (sequences_of (all_events segments))
