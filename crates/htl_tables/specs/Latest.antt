-- What a table of latest events has at a key.
use Rattle.std.specs.Prelude.{◌≡◌, ℕ, ◌==◌, ◌&&◌, nat_lt, if◌then◌else◌, List, Option, Some, None, fold}
use Rattle.std.specs.FinMap.Entries.{find}
use Rattle.htl_event.specs.Events.{Event}
use Rattle.htl_event.specs.Slots.{base_of}
use Rattle.htl_event.specs.Handles.{opens_or_closes, later}
use Rattle.htl_tables.specs.Keys.{key_cmp, keyed}

-- the event that a table has for a base handle of a process
abbrev pub event_at : List Event → ℕ → ℕ → Option Event
event_at rows process base = find key_cmp (process, base) (keyed rows)

-- the table has the event for its process and base handle
abbrev pub HasEvent : List Event → Event → Type 0
HasEvent rows e = event_at rows e.process (base_of e.handle) ≡ Some e

-- the event is of this process, and the table has it for its base handle
abbrev pub HasEventOf : List Event → ℕ → Event → Type 0
HasEventOf rows process e = (e.process ≡ process) × HasEvent rows e

-- the later of what was there and the event, where that opens or closes the base handle of the process
abbrev pub with_event : ℕ → ℕ → Option Event → Event → Option Event
with_event process base old e =
    if opens_or_closes e.kind && (e.process == process && base_of e.handle == base) then later old (Some e) else old

-- what is there once all the events were noted, one after the other
abbrev pub noted : List Event → ℕ → ℕ → Option Event
noted events process base = fold (with_event process base) None events

-- one row of two that have one key
abbrev pub later_of : Event → Event → Event
later_of x y = if nat_lt x.sequence y.sequence then y else x

-- two tables that are about to be joined
pub record Joining : Type 0 where
  pub older : List Event
  pub newer : List Event

abbrev pub joining : List Event → List Event → Joining
joining older newer = record { older = older; newer = newer }
