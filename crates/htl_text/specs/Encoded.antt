-- What a text encodes, or else its first fault (this project's own). A fault of a line is found there, and one of
-- a segment where the segment ends.
use Rattle.std.specs.Prelude.{◌≡◌, ◌⊎◌, ◌&&◌, ℕ, ◌+◌, Bool, true, false, not, List, [], ◌∷◌, ◌++◌, Option, Some, None}
use Rattle.std.specs.Prelude.{Result, Ok, Err, All, filter}
use Rattle.std.specs.Prelude.{if◌then◌else◌, length, map, nat_lt, option_and_then, slice_get}
use Rattle.htl_event.specs.Events.{Event}
use Rattle.htl_segment.specs.Content.{Content, Fits}
use Rattle.htl_segment.specs.Building.{build_fault}
use Rattle.htl_segment.specs.Reading.{version_of}
use Rattle.htl_segment.specs.declared.version.Version.{Version}
use Rattle.htl_segment.specs.declared.fault.Fault.{Fault}
use Rattle.htl_segment.specs.declared.fault.Fault.TheVariants as faults
use Rattle.htl_text.specs.Items.{Draft, draft_items, segments_items, without_stack}
use Rattle.htl_text.specs.Lines.{text_lines, words_of, is_skipped, item_in}
use Rattle.htl_text.specs.declared.item.Head.{Head}
use Rattle.htl_text.specs.declared.item.Item.{Item}
use Rattle.htl_text.specs.declared.item.Item.TheVariants as item
use Rattle.htl_text.specs.declared.fault.FormFault.{FormFault}
use Rattle.htl_text.specs.declared.fault.LineFault.{LineFault}
use Rattle.htl_text.specs.declared.fault.LineFault.TheVariants.{Form, Order, Segment}
use Rattle.htl_text.specs.declared.fault.TextFault.{TextFault}
use Rattle.htl_text.specs.declared.fault.TextFault.TheVariants as text

-- the words of the lines that aren't skipped
unfoldable pub kept : List (List ℕ) → List (List (List ℕ))
kept lines = filter (λ ws. not (is_skipped ws)) (map words_of lines)

-- the lines that aren't skipped have these items
abbrev pub Write : List (List ℕ) → List Item → Type 0
Write lines items = map item_in (kept lines) ≡ map Ok items

-- the lines encode segments: they have their items, and the format can encode them
pub record LinesEncode (lines : List (List ℕ)) (segments : List Content) : Type 0 where
  pub written : Write lines (segments_items segments)
  pub fits : All Fits segments

abbrev pub Encodes : List ℕ → List Content → Type 0
Encodes text segments = LinesEncode (text_lines text) segments

-- the draft as a segment of this version
abbrev pub content_of : Version → Draft → Content
content_of version d = record {
  version = version;
  trace_id = d.head.trace_id;
  processors = d.head.processors;
  processor = d.head.processor;
  number = d.head.number;
  events = d.events;
}

abbrev pub fault_in : Option Version → Draft → Option Fault
fault_in None d = Some faults.Version
fault_in (Some version) d = build_fault (content_of version d)

abbrev pub draft : Head → List Event → Draft
draft head events = record { head = head; events = events }

-- the segment says what the draft says
abbrev pub IsSegmentOf : Draft → Content → Type 0
IsSegmentOf d s = (version_of d.head.version ≡ Some s.version) × (s ≡ content_of s.version d) × Fits s

-- the first rule of the format that a draft breaks
abbrev pub draft_fault : Draft → Option Fault
draft_fault d = fault_in (version_of d.head.version) d

-- What lines write so far: nothing, or segments and the draft of one more, which may go on.
abbrev pub Written : Type 0
Written = Option (List Content × Draft)

abbrev pub written_items : Written → List Item
written_items None = []
written_items (Some so_far) = segments_items so_far.0 ++ draft_items so_far.1

abbrev pub WrittenFits : Written → Type 0
WrittenFits None = Unit {0}
WrittenFits (Some so_far) = All Fits so_far.0

abbrev pub is_frame : Item → Bool
is_frame (item.Frame address) = true
is_frame i = false

abbrev pub is_header : Item → Bool
is_header (item.Segment head) = true
is_header i = false

abbrev pub is_none_yet : List Event → Bool
is_none_yet [] = true
is_none_yet (e ∷ es) = false

-- An item that can't stand here: an event or a frame before any segment, or a frame before any event of its
-- segment.
abbrev pub is_misplaced : Written → Item → Bool
is_misplaced None i = not (is_header i)
is_misplaced (Some so_far) i = is_frame i && is_none_yet so_far.1.events

-- a line with these words has this fault, after what was written
abbrev pub IsBad : Written → List (List ℕ) → LineFault → Type 0
IsBad written ws (Form fault) = item_in ws ≡ Err fault
IsBad written ws Order = (i : Item) × (item_in ws ≡ Ok i) × (is_misplaced written i ≡ true)
IsBad written ws (Segment fault) = ⊥

-- Lines without a fault, and then one that has a fault.
pub record IsLineFault (lines : List (List ℕ)) (line : ℕ) (fault : LineFault) : Type 0 where
  pub before : List (List ℕ)
  pub bad : List ℕ
  pub later : List (List ℕ)
  pub cut : lines ≡ before ++ bad ∷ later
  pub line_is : line ≡ length before + 1
  pub so_far : Written
  pub fits : WrittenFits so_far
  pub written : Write before (written_items so_far)
  pub read : is_skipped (words_of bad) ≡ false
  pub is_bad : IsBad so_far (words_of bad) fault

abbrev pub begins_segment : Result Item FormFault → Bool
begins_segment (Ok i) = is_header i
begins_segment (Err fault) = false

-- a segment ends before these lines: no line is left that isn't skipped, or the first of them begins another
abbrev pub ends_before : List (List (List ℕ)) → Bool
ends_before [] = true
ends_before (ws ∷ more) = begins_segment (item_in ws)

-- Lines of segments, and then the lines of one that the format can't encode, up to its end.
pub record IsSegmentFault (lines : List (List ℕ)) (line : ℕ) (fault : Fault) : Type 0 where
  pub before : List (List ℕ)
  pub first : List ℕ
  pub body : List (List ℕ)
  pub later : List (List ℕ)
  pub cut : lines ≡ before ++ (first ∷ body ++ later)
  pub line_is : line ≡ length before + 1
  pub segments : List Content
  pub fits : All Fits segments
  pub written : Write before (segments_items segments)
  pub begun : is_skipped (words_of first) ≡ false
  pub draft : Draft
  pub drafted : Write (first ∷ body) (draft_items draft)
  pub ended : ends_before (kept later) ≡ true
  pub fault_is : draft_fault draft ≡ Some fault

-- the first fault of lines, and the line at which it is reported, from 1
abbrev pub LinesFault : List (List ℕ) → ℕ → LineFault → Type 0
LinesFault lines line (Form fault) = IsLineFault lines line (Form fault)
LinesFault lines line Order = IsLineFault lines line Order
LinesFault lines line (Segment fault) = IsSegmentFault lines line fault

abbrev pub FirstFault : List ℕ → ℕ → LineFault → Type 0
FirstFault text line fault = LinesFault (text_lines text) line fault

-- the record that a fault of a segment is about
abbrev pub record_of : Fault → Option ℕ
record_of (faults.RecordShort place) = Some place
record_of (faults.Sequence place) = Some place
record_of (faults.Kind place) = Some place
record_of (faults.Frames place) = Some place
record_of (faults.Field place) = Some place
record_of fault = None

abbrev pub event_lines_from : ℕ → Result Item FormFault → List ℕ → List ℕ
event_lines_from line (Ok (item.Segment head)) later = []
event_lines_from line (Ok (item.Event e)) later = line ∷ later
event_lines_from line (Ok (item.Frame address)) later = later
event_lines_from line (Err fault) later = later

-- The numbers of the lines, from 1, that have the events of the segment that begins at a line: those behind it, up to
-- the next that begins a segment. The lines given follow n others.
unfoldable pub event_lines : ℕ → ℕ → List (List ℕ) → List ℕ
event_lines segment n [] = []
event_lines segment n (l ∷ ls) =
    if nat_lt segment (n + 1) then event_lines_from (n + 1) (item_in (words_of l)) (event_lines segment (n + 1) ls)
    else event_lines segment (n + 1) ls

-- the line of the event that a fault is about, if it is about one. The fault is reported at the line that is given.
abbrev pub event_line : List ℕ → ℕ → LineFault → Option ℕ
event_line text line (Form fault) = None
event_line text line Order = None
event_line text line (Segment fault) = option_and_then (slice_get (event_lines line 0 (text_lines text))) (record_of fault)

-- the line of this number is there, and has this event
abbrev pub HasEvent : List (List ℕ) → Option Event → Option ℕ → Type 0
HasEvent lines (Some e) (Some line) =
    (before : ℕ) × (l : List ℕ) × (line ≡ before + 1) × (slice_get lines before ≡ Some l)
    × (item_in (words_of l) ≡ Ok (item.Event (without_stack e)))
HasEvent lines e line = ⊥

-- the first of these lines begins a segment
abbrev pub begins : List (List (List ℕ)) → Bool
begins [] = false
begins (ws ∷ more) = begins_segment (item_in ws)

-- why a text is refused: its first fault, or out of memory, which is asked for only where the text begins with a segment
abbrev pub IsRefused : List ℕ → TextFault → Type 0
IsRefused bytes (text.Line line fault) = FirstFault bytes line fault
IsRefused bytes text.NoMemory = begins (kept (text_lines bytes)) ≡ true

-- the refusal is of this line and this fault, or out of memory
abbrev pub IsOrNoMemory : ℕ → LineFault → TextFault → Type 0
IsOrNoMemory line fault refused = (refused ≡ text.Line line fault) ⊎ (refused ≡ text.NoMemory)
