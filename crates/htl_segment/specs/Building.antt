-- The first rule of the format HLS1 that the parts of a segment break: the header's rules first, then
-- the rules of each event in turn.
use Rattle.std.specs.Prelude.{◌≡◌, MatchOption, MatchResult, Result}
use Rattle.std.specs.Prelude.{ℕ, ◌+◌, List, [], ◌∷◌, length, not, ◌||◌, ◌==◌, nat_lt, nat_le, if◌then◌else◌, Option, Some, None}
use Rattle.htl_event.specs.Events.{Event}
use Rattle.htl_segment.specs.declared.version.Version.{Version}
use Rattle.htl_segment.specs.declared.fault.Fault.{Fault}
use Rattle.htl_segment.specs.declared.fault.Fault.TheVariants as faults
use Rattle.htl_segment.specs.Versions.{limits_of}
use Rattle.htl_segment.specs.Content.{Content, kind_code, fields_fit, Fits}
use Rattle.htl_segment.specs.Faults.{or_else}

-- the first fault of an event: its place is i, and the event before it has the sequence `last`, which is 0 for the first
unfoldable pub event_fault : Version → ℕ → ℕ → Event → Option Fault
event_fault v i last e =
    if nat_le e.sequence last then Some (faults.Sequence i)
    else if nat_lt (limits_of v).kinds (kind_code e.kind) then Some (faults.Kind i)
    else if nat_lt (limits_of v).frames (length e.stack) then Some (faults.Frames i)
    else if not (fields_fit e.kind e.handle e.object e.tag) then Some (faults.Field i)
    else None

-- the first fault of the events from place i on
unfoldable pub events_fault : Version → ℕ → ℕ → List Event → Option Fault
events_fault v i last [] = None
events_fault v i last (e ∷ es) = or_else (event_fault v i last e) (events_fault v (i + 1) e.sequence es)

unfoldable pub build_fault : Content → Option Fault
build_fault s =
    if s.processors == 0 || nat_lt (limits_of s.version).processors s.processors then Some faults.Processors
    else if nat_le s.processors s.processor then Some faults.Processor
    else if nat_lt 0xFFFFFFFE s.number then Some faults.Number
    else if nat_lt 4096 (length s.events) then Some faults.Count
    else events_fault s.version 0 0 s.events

-- What is answered where a segment is to be built of these parts: the segment, whose parts fit, or their
-- first fault, or out of memory where they have none; the events come back with each refusal.
abbrev pub Builds : {E : Type 0} → Content → E → Result Content (Fault × E) → Type 0
Builds parts events result = MatchResult result
    (λ segment. Fits parts × (segment ≡ parts))
    (λ refused. MatchOption (build_fault parts) (refused.0 ≡ faults.NoMemory) (λ fault. refused.0 ≡ fault) × (refused.1 ≡ events))
