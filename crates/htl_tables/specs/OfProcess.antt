-- Tables of the handles of all processes, or of one process alone.
use Rattle.std.specs.Prelude.{ℕ, ◌==◌, ◌&&◌, if◌then◌else◌, Bool, true, List, Option, Some, None}
use Rattle.htl_event.specs.Events.{Event}
use Rattle.htl_event.specs.Handles.{opens_or_closes}
use Rattle.htl_tables.specs.Latest.{noted}

-- the process is the chosen one; where none is chosen, each is
abbrev pub is_chosen : Option ℕ → ℕ → Bool
is_chosen None process = true
is_chosen (Some one) process = process == one

-- the event opens or closes a handle of a chosen process
abbrev pub touches : Option ℕ → Event → Bool
touches chosen e = opens_or_closes e.kind && is_chosen chosen e.process

-- what is there once the opens and closes of the chosen process were noted, or those of all processes
abbrev pub noted_of : Option ℕ → List Event → ℕ → ℕ → Option Event
noted_of chosen events process base = if is_chosen chosen process then noted events process base else None
