-- What a segment says, and what the format HLS1 (this project's own) lets it say.
use Rattle.std.specs.Prelude.{◌≡◌, ℕ, ◌<◌, ◌≤◌, ◌^◌, List, [], ◌∷◌, length, Bool, true, not, ◌&&◌, ◌==◌, nat_eq}
use Rattle.std.specs.Cmp.Lexicographic.{pointwise}
use Rattle.htl_event.specs.Events.{Event}
use Rattle.htl_event.specs.declared.kind.Kind.{Kind}
use Rattle.htl_event.specs.declared.kind.Kind.TheVariants.{Opened, Closed, BadRef, Snapshot, Ref, Deref, Exited}
use Rattle.htl_event.specs.Slots.{base_of}
use Rattle.htl_event.specs.Ranges.{InRange}
use Rattle.htl_segment.specs.declared.version.Version.{Version}
use Rattle.htl_segment.specs.Versions.{limits_of}

-- a segment without where it lies in memory
pub record Content : Type 0 where
  pub version : Version
  pub trace_id : ℕ
  pub processors : ℕ
  pub processor : ℕ
  pub number : ℕ
  pub events : List Event

abbrev pub content : Version → ℕ → ℕ → ℕ → ℕ → List Event → Content
content version trace_id processors processor number events = record {
  version = version;
  trace_id = trace_id;
  processors = processors;
  processor = processor;
  number = number;
  events = events;
}

-- the code of a kind in a record
abbrev pub kind_code : Kind → ℕ
kind_code Opened = 1
kind_code Closed = 2
kind_code BadRef = 3
kind_code Snapshot = 4
kind_code Ref = 5
kind_code Deref = 6
kind_code Exited = 7

abbrev pub is_no_tag : List ℕ → Bool
is_no_tag tag = pointwise nat_eq tag (0 ∷ 0 ∷ 0 ∷ 0 ∷ [])

-- Handle, object and tag are as the kind asks: an open and a close name a handle that isn't 0 without its
-- low two bits, a reference and a dereference an object that isn't 0; what a kind doesn't have is 0.
abbrev pub fields_fit : Kind → ℕ → ℕ → List ℕ → Bool
fields_fit Opened handle object tag = not (base_of handle == 0) && object == 0 && is_no_tag tag
fields_fit Closed handle object tag = not (base_of handle == 0) && object == 0 && is_no_tag tag
fields_fit BadRef handle object tag = object == 0 && is_no_tag tag
fields_fit Snapshot handle object tag = handle == 0 && object == 0 && is_no_tag tag
fields_fit Ref handle object tag = handle == 0 && not (object == 0)
fields_fit Deref handle object tag = handle == 0 && not (object == 0)
fields_fit Exited handle object tag = handle == 0 && object == 0 && is_no_tag tag

-- an event that a record of this version can hold
pub record EventFits (version : Version) (e : Event) : Type 0 where
  pub in_range : InRange e
  pub kind : kind_code e.kind ≤ (limits_of version).kinds
  pub depth : length e.stack ≤ (limits_of version).frames
  pub fields : fields_fit e.kind e.handle e.object e.tag ≡ true

-- each event fits, and the sequences rise from above the last one
abbrev pub EventsFit : Version → ℕ → List Event → Type 0
EventsFit version last [] = Unit {0}
EventsFit version last (e ∷ es) = EventFits version e × (last < e.sequence) × EventsFit version e.sequence es

-- what the format can encode
pub record Fits (s : Content) : Type 0 where
  pub trace_id : s.trace_id < 2 ^ 64
  pub processors : (1 ≤ s.processors) × (s.processors ≤ (limits_of s.version).processors)
  pub processor : s.processor < s.processors
  pub number : s.number ≤ 0xFFFFFFFE
  pub count : length s.events ≤ 4096
  pub events : EventsFit s.version 0 s.events
