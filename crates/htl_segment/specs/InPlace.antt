-- A header and records where they lie in bytes: what the code keeps of a segment in place.
use Rattle.std.specs.Prelude.{◌≡◌, ℕ, zero, suc, ◌+◌, ◌*◌, ◌≤◌, List, length, slice_index, Some}
use Rattle.htl_segment.specs.declared.version.Version.{Version}
use Rattle.htl_segment.specs.declared.header.Header.{Header}
use Rattle.htl_segment.specs.Numbers.{number}
use Rattle.htl_segment.specs.Content.{Content, content, Fits}
use Rattle.htl_segment.specs.Encoding.{encoding}
use Rattle.htl_segment.specs.Reading.{kind_of, kind_in, frames_in, after_record, events_in, version_in, length_in}

-- the fields of the header at the front
unfoldable pub header_in : List ℕ → Header
header_in b = record {
  version = version_in b;
  processors = number 6 2 b;
  processor = number 8 2 b;
  number = number 12 4 b;
  trace_id = number 16 8 b;
  count = number 24 4 b;
  len = length_in b;
}

-- the segment of a header and the bytes of its records
abbrev pub content_of : Header → List ℕ → Content
content_of h body = content h.version h.trace_id h.processors h.processor h.number (events_in h.count body)

-- a whole record stands at the front, of a kind that the version has
pub record HasRecord (v : Version) (b : List ℕ) : Type 0 where
  pub whole : 36 + 8 * frames_in b ≤ length b
  pub few : frames_in b ≤ 64
  pub kind : kind_in v (slice_index b 8) ≡ Some (kind_of (slice_index b 8))

-- this many whole records follow each other
abbrev pub HasRecords : Version → ℕ → List ℕ → Type 0
HasRecords v zero b = Unit {0}
HasRecords v (suc n) b = HasRecord v b × HasRecords v n (after_record b)

-- The header and the bytes of its records are one segment.
pub record IsSegment (h : Header) (body : List ℕ) : Type 0 where
  pub fits : Fits (content_of h body)
  pub len : 32 + length body ≡ length (encoding (content_of h body))
  pub has_records : HasRecords h.version h.count body
