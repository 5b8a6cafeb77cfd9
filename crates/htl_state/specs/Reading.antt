-- What is read from the front of bytes in the format HLA1, or the first rule that they break: the rules in the order in
-- which they are tried.
use Rattle.std.specs.Prelude.{◌≡◌, ◌⊎◌, ℕ, zero, suc, ◌+◌, ◌*◌, ◌/◌, ◌-◌, ◌^◌, List, [], ◌∷◌, ◌++◌, length, take, drop}
use Rattle.std.specs.Prelude.{slice_get, slice_index}
use Rattle.std.specs.Prelude.{Bool, true, not, ◌||◌, ◌&&◌, ◌==◌, nat_eq, nat_lt, nat_le, if◌then◌else◌, Option, Some, None, is_some}
use Rattle.std.specs.Prelude.{Result, Ok, Err, codes}
use Rattle.std.specs.List.{starts_with}
use Rattle.std.specs.Ordering.{is_lt}
use Rattle.htl_event.specs.declared.slot.Slot.{Slot}
use Rattle.htl_event.specs.declared.slot.Slot.TheVariants.{Tagged, Handles, Bad}
use Rattle.htl_event.specs.declared.kind.Kind.{Kind}
use Rattle.htl_event.specs.declared.kind.Kind.TheVariants.{Opened, Closed}
use Rattle.htl_event.specs.Slots.{base_of}
use Rattle.htl_event.specs.SlotOrder.{slot_cmp}
use Rattle.htl_event.specs.Stacks.{stack_cmp}
use Rattle.htl_segment.specs.Numbers.{number, numbers}
use Rattle.htl_segment.specs.Content.{Content}
use Rattle.htl_segment.specs.Encoding.{encoding}
use Rattle.htl_segment.specs.Reading.{length_in, content_in}
use Rattle.htl_segment.specs.Faults.{first_fault}
use Rattle.htl_state.specs.declared.fault.Fault.{Fault}
use Rattle.htl_state.specs.declared.fault.Fault.TheVariants as faults
use Rattle.htl_state.specs.declared.fault.Refused.{Refused}
use Rattle.htl_state.specs.declared.fault.StateError.{StateError}
use Rattle.htl_state.specs.declared.rows.CountRow.{CountRow}
use Rattle.htl_state.specs.declared.rows.LatestRow.{LatestRow}
use Rattle.htl_state.specs.declared.rows.Setting.{Setting}
use Rattle.htl_state.specs.Checksum.{checksum}
use Rattle.htl_state.specs.Rows.{Part, part, State, state}
use Rattle.htl_state.specs.Format.{stack_bytes, count_bytes, latest_bytes, moment_bytes}

-- ---- what is read, and what is left behind it; or which item is refused

abbrev pub Reading : Type 0 → Type 0
Reading X = Result (X × List ℕ) Refused

-- the item at the front of these bytes is refused
abbrev pub refused : Fault → List ℕ → Refused
refused fault b = record { fault = fault; left = length b }

abbrev pub and_then : {X Y : Type 0} → Reading X → (X → List ℕ → Reading Y) → Reading Y
and_then (Ok read) next = next read.0 read.1
and_then (Err refused) next = Err refused

-- why a reading was refused: as the rules say, or since memory was
abbrev pub IsRefusal : {X : Type 0} → Refused → Reading X → Type 0
IsRefusal refused reading = (refused.fault ≡ faults.NoMemory) ⊎ (reading ≡ Err refused)

-- ---- rows

-- how the rows of a list are written, read and ordered, their least length, and the fault of one that is refused
pub record RowFormat (Row : Type 0) : Type 0 where
  pub bytes : Row → List ℕ
  pub read : Setting → List ℕ → Option (Row × List ℕ)
  pub is_before : Row → Row → Bool
  pub least : ℕ
  pub fault : Fault

abbrev pub follows : {Row : Type 0} → (Row → Row → Bool) → Option Row → Row → Bool
follows is_before None row = true
follows is_before (Some last) row = is_before last row

abbrev pub in_order : {Row : Type 0} → RowFormat Row → Option Row → List ℕ → Option (Row × List ℕ) → Reading Row
in_order f last b None = Err (refused f.fault b)
in_order f last b (Some read) = if follows f.is_before last read.0 then Ok read else Err (refused f.fault b)

-- the row at the front, which comes after the last one
abbrev pub next_in : {Row : Type 0} → RowFormat Row → Setting → Option Row → List ℕ → Reading Row
next_in f s last b = in_order f last b (f.read s b)

abbrev pub last_of : {Row : Type 0} → List Row → Option Row
last_of rows = slice_get rows (length rows - 1)

-- this many rows more, behind those that were read
unfoldable pub rows_in : {Row : Type 0} → RowFormat Row → Setting → ℕ → List Row → List ℕ → Reading (List Row)
rows_in f s zero before b = Ok (before, b)
rows_in f s (suc n) before b =
    and_then (next_in f s (last_of before) b) (λ row rest. rows_in f s n (before ++ row ∷ []) rest)

-- a list, of as many rows as the number at the front says, for which there are bytes enough
unfoldable pub list_in : {Row : Type 0} → RowFormat Row → Setting → List ℕ → Reading (List Row)
list_in f s b =
    if nat_lt (length b) 8 then Err (refused faults.List b)
    else if nat_lt (length (drop 8 b) / f.least) (number 0 8 b) then Err (refused faults.List b)
    else rows_in f s (number 0 8 b) [] (drop 8 b)

-- ---- the rows of each list

unfoldable pub stack_in : Setting → List ℕ → Option (List ℕ × List ℕ)
stack_in s b =
    if nat_lt (length b) 1 then None
    else if nat_lt 64 (slice_index b 0) || nat_lt (length b) (1 + 8 * slice_index b 0) then None
    else Some (numbers 1 (slice_index b 0) b, drop (1 + 8 * slice_index b 0) b)

abbrev pub stacks : RowFormat (List ℕ)
stacks = record {
  bytes = stack_bytes;
  read = stack_in;
  is_before = λ a b. is_lt (stack_cmp a b);
  least = 1;
  fault = faults.Stack;
}

-- the slot of a kind, a name and four bytes; a process has four bytes
abbrev pub slot_of : ℕ → ℕ → List ℕ → Option Slot
slot_of (suc zero) name b = Some (Tagged name (take 4 b))
slot_of (suc (suc zero)) name b = if nat_lt name (2 ^ 32) && number 0 4 b == 0 then Some (Handles name) else None
slot_of (suc (suc (suc zero))) name b = if nat_lt name (2 ^ 32) then Some (Bad name (number 0 4 b)) else None
slot_of kind name b = None

abbrev pub count_of : List ℕ → Option Slot → Option (CountRow × List ℕ)
count_of b None = None
count_of b (Some slot) =
    Some (record { stack = number 0 4 b; slot = slot; count = record { plus = number 20 8 b; minus = number 28 8 b } }, drop 36 b)

unfoldable pub count_in : Setting → List ℕ → Option (CountRow × List ℕ)
count_in s b =
    if nat_lt (length b) 36 then None
    else if nat_le s.stacks (number 0 4 b) || (number 20 8 b == 0 && number 28 8 b == 0) then None
    else count_of b (slot_of (number 4 4 b) (number 8 8 b) (drop 16 b))

abbrev pub counts : RowFormat CountRow
counts = record {
  bytes = count_bytes;
  read = count_in;
  is_before = λ a b. nat_lt a.stack b.stack || (a.stack == b.stack && is_lt (slot_cmp a.slot b.slot));
  least = 36;
  fault = faults.Count;
}

-- an open is 1 and a close 2, as in a record of a segment
abbrev pub kind_of : ℕ → Option Kind
kind_of (suc zero) = Some Opened
kind_of (suc (suc zero)) = Some Closed
kind_of code = None

abbrev pub latest_of : List ℕ → Option Kind → Option (LatestRow × List ℕ)
latest_of b None = None
latest_of b (Some kind) =
    Some (
      record {
        sequence = number 0 8 b;
        kind = kind;
        process = number 12 4 b;
        thread = number 16 4 b;
        handle = number 20 4 b;
        stack = number 24 4 b;
      },
      drop 28 b,
    )

unfoldable pub latest_in : Setting → List ℕ → Option (LatestRow × List ℕ)
latest_in s b =
    if nat_lt (length b) 28 then None
    else if number 0 8 b == 0 || base_of (number 20 4 b) == 0 || nat_le s.stacks (number 24 4 b) then None
    else latest_of b (kind_of (number 8 4 b))

abbrev pub latest : RowFormat LatestRow
latest = record {
  bytes = latest_bytes;
  read = latest_in;
  is_before = λ a b. nat_lt a.process b.process || (a.process == b.process && nat_lt (base_of a.handle) (base_of b.handle));
  least = 28;
  fault = faults.Latest;
}

unfoldable pub moment_in : Setting → List ℕ → Option ((ℕ × ℕ) × List ℕ)
moment_in s b =
    if nat_lt (length b) 12 then None
    else if number 4 8 b == 0 then None
    else Some ((number 0 4 b, number 4 8 b), drop 12 b)

abbrev pub moments : RowFormat (ℕ × ℕ)
moments = record {
  bytes = moment_bytes;
  read = moment_in;
  is_before = λ a b. nat_lt a.0 b.0;
  least = 12;
  fault = faults.Moment;
}

-- the segment is of the trace and the processor, and above the front
abbrev pub is_of : Setting → Content → Bool
is_of s segment =
    segment.trace_id == s.trace_id
    && (segment.processors == s.processors && (segment.processor == s.processor && nat_lt s.front segment.number))

abbrev pub segment_of : Setting → Content → List ℕ → Option (Content × List ℕ)
segment_of s segment rest = if is_of s segment then Some (segment, rest) else None

unfoldable pub segment_in : Setting → List ℕ → Option (Content × List ℕ)
segment_in s b = if is_some (first_fault b) then None else segment_of s (content_in b) (drop (length_in b) b)

abbrev pub held : RowFormat Content
held = record {
  bytes = encoding;
  read = segment_in;
  is_before = λ a b. nat_lt a.number b.number;
  least = 32;
  fault = faults.Held;
}

-- ---- parts, and the whole

abbrev pub setting : ℕ → ℕ → ℕ → ℕ → ℕ → Setting
setting trace_id processors processor front table =
    record { trace_id = trace_id; processors = processors; processor = processor; front = front; stacks = table }

abbrev pub with_front : Setting → ℕ → Setting
with_front s front = setting s.trace_id s.processors s.processor front s.stacks

abbrev pub of_processor : Setting → ℕ → Setting
of_processor s processor = setting s.trace_id s.processors processor 0 s.stacks

-- the five lists of a part, and its numbers before them
unfoldable pub lists_in : Setting → List ℕ → Reading Part
lists_in s b =
    and_then (list_in counts s (drop 20 b)) (λ tree b1.
    and_then (list_in latest s b1) (λ events b2.
    and_then (list_in moments s b2) (λ marks b3.
    and_then (list_in moments s b3) (λ exits b4.
    and_then (list_in held s b4) (λ segments b5.
    Ok (part (number 0 4 b) (number 4 8 b) (number 12 8 b) tree events marks exits segments, b5))))))

unfoldable pub part_in : Setting → List ℕ → Reading Part
part_in s b = if nat_lt (length b) 20 then Err (refused faults.Part b) else lists_in (with_front s (number 0 4 b)) b

-- the parts of this many processors more, behind those that were read
unfoldable pub parts_in : Setting → ℕ → ℕ → List Part → List ℕ → Reading (List Part)
parts_in s zero processor before b = Ok (before, b)
parts_in s (suc n) processor before b =
    and_then (part_in (of_processor s processor) b) (λ next rest. parts_in s n (processor + 1) (before ++ next ∷ []) rest)

abbrev pub ended : State → List ℕ → Reading State
ended s rest = if length rest == 0 then Ok (s, rest) else Err (refused faults.Excess rest)

-- the table of stacks and the parts, which fill the bytes
unfoldable pub body_in : ℕ → ℕ → List ℕ → Reading State
body_in id processors b =
    and_then (list_in stacks (setting id processors 0 0 0) b) (λ table b1.
    and_then (parts_in (setting id processors 0 0 (length table)) processors 0 [] b1) (λ parts b2. ended (state id table parts) b2))

abbrev pub at : Fault → ℕ → Option StateError
at fault offset = Some (record { fault = fault; offset = offset })

-- the first fault of the header and of the end
unfoldable pub frame_fault : List ℕ → Option StateError
frame_fault b =
    if nat_lt (length b) 40 then at faults.Short 0
    else if not (starts_with nat_eq b (codes "HLA1")) then at faults.Magic 0
    else if not (number 4 2 b == 1) then at faults.Version 4
    else if not (number 6 2 b == 0) then at faults.Reserved 6
    else if number 16 8 b == 0 || nat_lt 256 (number 16 8 b) then at faults.Processors 16
    else if not (number (length b - 16) 8 b == length b) then at faults.Length (length b - 16)
    else if not (number (length b - 8) 8 b == checksum (take (length b - 8) b)) then at faults.Checksum (length b - 8)
    else None

abbrev pub placed : ℕ → Reading State → Result State StateError
placed end (Ok read) = Ok read.0
placed end (Err refused) = Err (record { fault = refused.fault; offset = end - refused.left })

abbrev pub framed : List ℕ → Option StateError → Result State StateError
framed b (Some error) = Err error
framed b None = placed (length b - 16) (body_in (number 8 8 b) (number 16 8 b) (drop 24 (take (length b - 16) b)))

-- the state that bytes are, or their first fault
unfoldable pub state_in : List ℕ → Result State StateError
state_in b = framed b (frame_fault b)
