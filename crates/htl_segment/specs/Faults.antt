-- The first rule of the format HLS1 that bytes break: the header's rules from left to right, then the
-- rules of each record in turn.
use Rattle.std.specs.Prelude.{ℕ, zero, suc, ◌+◌, ◌*◌, ◌-◌, List, length, take, drop, slice_index, not, ◌||◌, ◌==◌, nat_eq, nat_lt, nat_le}
use Rattle.std.specs.Prelude.{is_none, if◌then◌else◌, Option, Some, None, codes}
use Rattle.std.specs.List.{starts_with}
use Rattle.htl_segment.specs.declared.version.Version.{Version}
use Rattle.htl_segment.specs.declared.fault.Fault.{Fault}
use Rattle.htl_segment.specs.declared.fault.Fault.TheVariants as faults
use Rattle.htl_segment.specs.Versions.{limits_of}
use Rattle.htl_segment.specs.Numbers.{number}
use Rattle.htl_segment.specs.Content.{fields_fit}
use Rattle.htl_segment.specs.Reading.{version_of, kind_of, frames_in, after_record, version_in, length_in, body_in}

-- the first fault, or else the second
abbrev pub or_else : Option Fault → Option Fault → Option Fault
or_else None next = next
or_else (Some fault) next = Some fault

unfoldable pub header_fault : List ℕ → Option Fault
header_fault b =
    if nat_lt (length b) 32 then Some faults.Short
    else if not (starts_with nat_eq b (codes "HLS1")) then Some faults.Magic
    else if is_none (version_of (number 4 2 b)) then Some faults.Version
    else if number 6 2 b == 0 || nat_lt (limits_of (version_in b)).processors (number 6 2 b) then Some faults.Processors
    else if nat_le (number 6 2 b) (number 8 2 b) then Some faults.Processor
    else if not (number 10 2 b == 0) then Some faults.Reserved
    else if nat_lt 0xFFFFFFFE (number 12 4 b) then Some faults.Number
    else if nat_lt 4096 (number 24 4 b) then Some faults.Count
    else if nat_lt (length_in b) 32 || nat_lt (limits_of (version_in b)).len (length_in b) then Some faults.Length
    else None

-- the first fault of the record at the front: its place is i, and the record before it has the sequence `last`, which is 0 for the first
unfoldable pub record_fault : Version → ℕ → ℕ → List ℕ → Option Fault
record_fault v i last b =
    if nat_lt (length b) 36 then Some (faults.RecordShort i)
    else if nat_le (number 0 8 b) last then Some (faults.Sequence i)
    else if slice_index b 8 == 0 || nat_lt (limits_of v).kinds (slice_index b 8) then Some (faults.Kind i)
    else if nat_lt (limits_of v).frames (frames_in b) || nat_lt (length b - 36) (8 * frames_in b) then Some (faults.Frames i)
    else if not (number 10 2 b == 0) || not (fields_fit (kind_of (slice_index b 8)) (number 20 4 b) (number 24 8 b) (take 4 (drop 32 b)))
    then Some (faults.Field i)
    else None

-- the first fault of this many records from place i on, which have to fill the bytes
unfoldable pub records_fault : Version → ℕ → ℕ → ℕ → List ℕ → Option Fault
records_fault v zero i last b = if length b == 0 then None else Some faults.Excess
records_fault v (suc n) i last b =
    or_else (record_fault v i last b) (records_fault v n (i + 1) (number 0 8 b) (after_record b))

-- The first fault of bytes that ought to begin with a segment. There is none where they do.
unfoldable pub first_fault : List ℕ → Option Fault
first_fault b =
    or_else (header_fault b)
    (if nat_lt (length b) (length_in b) then Some faults.Cut
    else records_fault (version_in b) (number 24 4 b) 0 0 (body_in b))
