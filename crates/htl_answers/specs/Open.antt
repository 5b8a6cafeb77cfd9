-- The latest events of a process's handles, and the opens among them.
use Rattle.std.specs.Prelude.{◌&&◌, ℕ, nat_lt, Bool, true, false, List, Contains}
use Rattle.htl_event.specs.Events.{Event}
use Rattle.htl_event.specs.declared.kind.Kind.{Kind}
use Rattle.htl_event.specs.declared.kind.Kind.TheVariants.{Opened}
use Rattle.htl_event.specs.Handles.{LatestIs}
use Rattle.htl_tables.specs.Latest.{event_at}

abbrev pub is_open_kind : Kind → Bool
is_open_kind Opened = true
is_open_kind other = false

-- the event is an open that came after a moment
abbrev pub is_opened_after : ℕ → Event → Bool
is_opened_after moment e = is_open_kind e.kind && nat_lt moment e.sequence

-- the table has the latest open or close of each base handle of the process
abbrev pub AreLatestOf : List Event → ℕ → List Event → Type 0
AreLatestOf events process latest = (base : ℕ) → LatestIs (Contains events) process base (event_at latest process base)
