-- The bytes of a segment in the format HLS1 (this project's own).
use Rattle.std.specs.Prelude.{◌≡◌, ℕ, ◌+◌, ◌≤◌, List, [], ◌∷◌, ◌++◌, length, take, codes}
use Rattle.std.specs.List.{flat_map}
use Rattle.htl_event.specs.Events.{Event}
use Rattle.htl_segment.specs.Numbers.{bytes_of}
use Rattle.htl_segment.specs.Versions.{version_number}
use Rattle.htl_segment.specs.Content.{Content, kind_code, Fits}

-- a record: 36 bytes and eight for each frame
unfoldable pub event_bytes : Event → List ℕ
event_bytes e =
    bytes_of 8 e.sequence ++ kind_code e.kind ∷ length e.stack ∷ [] ++ bytes_of 2 0 ++ bytes_of 4 e.process ++ bytes_of 4 e.thread
    ++ bytes_of 4 e.handle ++ bytes_of 8 e.object ++ e.tag ++ flat_map (bytes_of 8) e.stack

abbrev pub records : List Event → List ℕ
records events = flat_map event_bytes events

-- the header of a segment whose records take so many bytes
unfoldable pub header_bytes : Content → ℕ → List ℕ
header_bytes s size =
    codes "HLS1" ++ bytes_of 2 (version_number s.version) ++ bytes_of 2 s.processors ++ bytes_of 2 s.processor ++ bytes_of 2 0
    ++ bytes_of 4 s.number ++ bytes_of 8 s.trace_id ++ bytes_of 4 (length s.events) ++ bytes_of 4 (32 + size)

abbrev pub encoding : Content → List ℕ
encoding s = header_bytes s (length (records s.events)) ++ records s.events

-- the bytes are those of the segment
pub record Encodes (b : List ℕ) (s : Content) : Type 0 where
  pub bytes : b ≡ encoding s
  pub fits : Fits s

-- the first n bytes are those of the segment
pub record BeginsWith (bytes : List ℕ) (n : ℕ) (s : Content) : Type 0 where
  pub inside : n ≤ length bytes
  pub encodes : Encodes (take n bytes) s
