-- What bytes say at the places of the format HLS1, whether or not they keep its rules.
use Rattle.std.specs.Prelude.{ℕ, zero, suc, ◌+◌, ◌*◌, ◌-◌, ◌||◌, ◌==◌, List, [], ◌∷◌, take, drop, slice_index, nat_lt, if◌then◌else◌}
use Rattle.std.specs.Prelude.{Option, Some, None, unwrap_or}
use Rattle.htl_event.specs.Events.{Event}
use Rattle.htl_event.specs.declared.kind.Kind.{Kind}
use Rattle.htl_event.specs.declared.kind.Kind.TheVariants.{Opened, Closed, BadRef, Snapshot, Ref, Deref, Exited}
use Rattle.htl_segment.specs.declared.version.Version.{Version}
use Rattle.htl_segment.specs.declared.version.Version.TheVariants.{V1, V2}
use Rattle.htl_segment.specs.Versions.{limits_of}
use Rattle.htl_segment.specs.Numbers.{number, numbers}
use Rattle.htl_segment.specs.Content.{Content}

-- the version of this number
abbrev pub version_of : ℕ → Option Version
version_of (suc zero) = Some V1
version_of (suc (suc zero)) = Some V2
version_of n = None

-- the kind of this code: 7 is the last, and a code that no version has reads as it does
abbrev pub kind_of : ℕ → Kind
kind_of (suc zero) = Opened
kind_of (suc (suc zero)) = Closed
kind_of (suc (suc (suc zero))) = BadRef
kind_of (suc (suc (suc (suc zero)))) = Snapshot
kind_of (suc (suc (suc (suc (suc zero))))) = Ref
kind_of (suc (suc (suc (suc (suc (suc zero)))))) = Deref
kind_of code = Exited

-- the kind of this code, if the version has one
abbrev pub kind_in : Version → ℕ → Option Kind
kind_in v code = if code == 0 || nat_lt (limits_of v).kinds code then None else Some (kind_of code)

-- how many frames the record at the front has
abbrev pub frames_in : List ℕ → ℕ
frames_in b = slice_index b 9

-- the record at the front
unfoldable pub event_in : List ℕ → Event
event_in b = record {
  sequence = number 0 8 b;
  kind = kind_of (slice_index b 8);
  process = number 12 4 b;
  thread = number 16 4 b;
  handle = number 20 4 b;
  object = number 24 8 b;
  tag = take 4 (drop 32 b);
  stack = numbers 36 (frames_in b) b;
}

-- what follows the record at the front
abbrev pub after_record : List ℕ → List ℕ
after_record b = drop (36 + 8 * frames_in b) b

-- this many records, one after the other
unfoldable pub events_in : ℕ → List ℕ → List Event
events_in zero b = []
events_in (suc n) b = event_in b ∷ events_in n (after_record b)

abbrev pub version_in : List ℕ → Version
version_in b = unwrap_or (version_of (number 4 2 b)) V1

-- the length that the header states
abbrev pub length_in : List ℕ → ℕ
length_in b = number 28 4 b

-- the bytes of the records, inside that length
abbrev pub body_in : List ℕ → List ℕ
body_in b = take (length_in b - 32) (drop 32 b)

unfoldable pub content_in : List ℕ → Content
content_in b = record {
  version = version_in b;
  trace_id = number 16 8 b;
  processors = number 6 2 b;
  processor = number 8 2 b;
  number = number 12 4 b;
  events = events_in (number 24 4 b) (body_in b);
}
