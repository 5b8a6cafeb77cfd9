-- The events of a trace as of a moment (this project's own): those whose sequence is at most the moment, as if nothing later had been
-- written.
use Rattle.std.specs.Prelude.{ℕ, nat_le, List, filter, Option, Some, None}
use Rattle.htl_event.specs.Events.{Event}

-- Until: the events at or below a moment.
abbrev pub events_until : ℕ → List Event → List Event
events_until moment events = filter (λ e. nat_le e.sequence moment) events

-- Counted events: the events until a moment where one is given, and else all events.
abbrev pub counted_events : Option ℕ → List Event → List Event
counted_events None events = events
counted_events (Some moment) events = events_until moment events
