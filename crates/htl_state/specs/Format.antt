-- The bytes of a state in the format HLA1 (this project's own).
use Rattle.std.specs.Prelude.{ℕ, ◌+◌, List, ◌∷◌, ◌++◌, length, codes}
use Rattle.std.specs.List.{flat_map}
use Rattle.htl_event.specs.declared.slot.Slot.{Slot}
use Rattle.htl_event.specs.declared.slot.Slot.TheVariants.{Tagged, Handles, Bad}
use Rattle.htl_segment.specs.Numbers.{bytes_of}
use Rattle.htl_segment.specs.Content.{kind_code}
use Rattle.htl_segment.specs.Encoding.{encoding}
use Rattle.htl_state.specs.declared.rows.CountRow.{CountRow}
use Rattle.htl_state.specs.declared.rows.LatestRow.{LatestRow}
use Rattle.htl_state.specs.Checksum.{checksum}
use Rattle.htl_state.specs.Rows.{Part, State}

-- a stack: its depth in one byte, and eight bytes for each address, the innermost call first
unfoldable pub stack_bytes : List ℕ → List ℕ
stack_bytes stack = length stack ∷ flat_map (bytes_of 8) stack

-- a slot in 16 bytes: its kind, the object or the process, and the tag or the handle
abbrev pub slot_bytes : Slot → List ℕ
slot_bytes (Tagged object tag) = bytes_of 4 1 ++ bytes_of 8 object ++ tag
slot_bytes (Handles process) = bytes_of 4 2 ++ bytes_of 8 process ++ bytes_of 4 0
slot_bytes (Bad process handle) = bytes_of 4 3 ++ bytes_of 8 process ++ bytes_of 4 handle

-- a count in 36 bytes
unfoldable pub count_bytes : CountRow → List ℕ
count_bytes row = bytes_of 4 row.stack ++ slot_bytes row.slot ++ bytes_of 8 row.count.plus ++ bytes_of 8 row.count.minus

-- a latest event in 28 bytes
unfoldable pub latest_bytes : LatestRow → List ℕ
latest_bytes row =
    bytes_of 8 row.sequence ++ bytes_of 4 (kind_code row.kind) ++ bytes_of 4 row.process ++ bytes_of 4 row.thread
    ++ bytes_of 4 row.handle ++ bytes_of 4 row.stack

-- a mark or an exit, the process and the sequence, in 12 bytes
unfoldable pub moment_bytes : ℕ × ℕ → List ℕ
moment_bytes row = bytes_of 4 row.0 ++ bytes_of 8 row.1

-- a list: the number of its rows in eight bytes, and then the rows
unfoldable pub list_bytes : {Row : Type 0} → (Row → List ℕ) → List Row → List ℕ
list_bytes row_bytes rows = bytes_of 8 (length rows) ++ flat_map row_bytes rows

-- the numbers at the front of a part, in 20 bytes
unfoldable pub front_bytes : Part → List ℕ
front_bytes p = bytes_of 4 p.front ++ bytes_of 8 p.last_sequence ++ bytes_of 8 p.events

-- a part: its numbers and its five lists
unfoldable pub part_bytes : Part → List ℕ
part_bytes p =
    front_bytes p ++ list_bytes count_bytes p.counts ++ list_bytes latest_bytes p.latest ++ list_bytes moment_bytes p.marks
    ++ list_bytes moment_bytes p.exits ++ list_bytes encoding p.held

-- the header, in 24 bytes: the magic, version 1, two reserved bytes, the id of the trace and the number of processors
unfoldable pub header_bytes : State → List ℕ
header_bytes s = codes "HLA1" ++ bytes_of 2 1 ++ bytes_of 2 0 ++ bytes_of 8 s.trace_id ++ bytes_of 8 (length s.parts)

-- all but the end: the header, the table of stacks, and the parts
unfoldable pub body_bytes : State → List ℕ
body_bytes s = header_bytes s ++ list_bytes stack_bytes s.stacks ++ flat_map part_bytes s.parts

-- the end, in 16 bytes: the length of the whole, and the checksum of all before it
unfoldable pub sealed : List ℕ → List ℕ
sealed body = let all = body ++ bytes_of 8 (length body + 16) in all ++ bytes_of 8 (checksum all)

-- a state
abbrev pub spelling : State → List ℕ
spelling s = sealed (body_bytes s)
