-- The steps of reading a text: what is held of a segment whose lines are being read, and what each line does.
use Rattle.std.specs.Prelude.{◌≡◌, ℕ, ◌+◌, List, [], ◌∷◌, ◌++◌, Option, Some, None, Result, Ok, Err, length}
use Rattle.std.specs.Option.{is_some}
use Rattle.std.specs.Prelude.{true, if◌then◌else◌, nat_le, nat_lt, option_to_list, unwrap_or}
use Rattle.htl_event.specs.Events.{Event, with_stack}
use Rattle.htl_segment.specs.Content.{Content}
use Rattle.htl_segment.specs.Encoding.{encoding}
use Rattle.htl_segment.specs.Reading.{version_of}
use Rattle.htl_segment.specs.declared.version.Version.{Version}
use Rattle.htl_segment.specs.declared.fault.Fault.{Fault}
use Rattle.htl_segment.specs.declared.fault.Fault.TheVariants as faults
use Rattle.htl_text.specs.Items.{Draft, LoneEvent}
use Rattle.htl_text.specs.Lines.{lines_of_text, words_of, is_skipped, item_in}
use Rattle.htl_text.specs.Encoded.{begins, content_of, draft_fault, IsSegmentOf, kept}
use Rattle.htl_text.specs.declared.item.Head.{Head}
use Rattle.htl_text.specs.declared.item.Item.{Item}
use Rattle.htl_text.specs.declared.item.Item.TheVariants as item
use Rattle.htl_text.specs.declared.fault.FormFault.{FormFault}
use Rattle.htl_text.specs.declared.fault.LineFault.{LineFault}
use Rattle.htl_text.specs.declared.fault.LineFault.TheVariants.{Form, Order, Segment}
use Rattle.htl_text.specs.declared.fault.TextFault.{TextFault}
use Rattle.htl_text.specs.declared.fault.TextFault.TheVariants as text

-- A draft, the line at which it begins, and its last event apart. Of a stack no more than 64 frames are held;
-- `overfull` is the place of the first event that has more.
pub record DraftLines : Type 0 where
  pub line : ℕ
  pub head : Head
  pub events : List Event
  pub event : Option Event
  pub overfull : Option ℕ

-- the bytes of the segments that are ended, and the one whose lines are being read
pub record Progress : Type 0 where
  pub bytes : List ℕ
  pub draft : Option DraftLines

abbrev pub draft_lines : ℕ → Head → List Event → Option Event → Option ℕ → DraftLines
draft_lines line head events event overfull = record { line = line; head = head; events = events; event = event; overfull = overfull }

abbrev pub progress : List ℕ → Option DraftLines → Progress
progress bytes draft = record { bytes = bytes; draft = draft }

abbrev pub nothing_read : Progress
nothing_read = progress [] None

abbrev pub begun : ℕ → Head → DraftLines
begun line head = record { line = line; head = head; events = []; event = None; overfull = None }

-- the last event put after the others
abbrev pub settled : DraftLines → DraftLines
settled h = record { line = h.line; head = h.head; events = h.events ++ option_to_list h.event; event = None; overfull = h.overfull }

abbrev pub with_event : LoneEvent → DraftLines → DraftLines
with_event e h = record {
  line = h.line;
  head = h.head;
  events = h.events ++ option_to_list h.event;
  event = Some (with_stack [] e);
  overfull = h.overfull;
}

-- the event with one more frame, or as it is where its stack is full
abbrev pub with_frame : ℕ → Event → Event
with_frame address e = if nat_lt (length e.stack) 64 then record e { stack = e.stack ++ address ∷ [] } else e

abbrev pub overfull_after : DraftLines → Event → Option ℕ
overfull_after h e = if nat_lt (length e.stack) 64 then h.overfull else Some (unwrap_or h.overfull (length h.events))

abbrev pub with_frame_of : ℕ → DraftLines → Event → DraftLines
with_frame_of address h e = record {
  line = h.line;
  head = h.head;
  events = h.events;
  event = Some (with_frame address e);
  overfull = overfull_after h e;
}

-- The fault of a draft with an overfull event at place i: the fault of its held events where that comes
-- first, and else the overfull event's.
abbrev pub overfull_fault : ℕ → Option Fault → Fault
overfull_fault i None = faults.Frames i
overfull_fault i (Some faults.NoMemory) = faults.Frames i
overfull_fault i (Some (faults.Sequence p)) = if nat_le p i then faults.Sequence p else faults.Frames i
overfull_fault i (Some (faults.Kind p)) = if nat_le p i then faults.Kind p else faults.Frames i
overfull_fault i (Some (faults.Frames p)) = if nat_le p i then faults.Frames p else faults.Frames i
overfull_fault i (Some (faults.Field p)) = if nat_lt p i then faults.Field p else faults.Frames i
overfull_fault i (Some fault) = fault

abbrev pub with_overfull : Option ℕ → Option Fault → Option Fault
with_overfull None fault = fault
with_overfull (Some i) fault = Some (overfull_fault i fault)

abbrev pub held_draft : DraftLines → Draft
held_draft h = record { head = h.head; events = h.events }

-- the fault of a settled draft
abbrev pub draft_lines_fault : DraftLines → Option Fault
draft_lines_fault h = with_overfull h.overfull (draft_fault (held_draft h))

abbrev pub draft_bytes : Option Version → Draft → List ℕ
draft_bytes None d = []
draft_bytes (Some version) d = encoding (content_of version d)

abbrev pub bytes_or_fault : List ℕ → DraftLines → Option Fault → Result (List ℕ) (ℕ × LineFault)
bytes_or_fault bytes h None = Ok (bytes ++ draft_bytes (version_of h.head.version) (held_draft h))
bytes_or_fault bytes h (Some fault) = Err (h.line, Segment fault)

-- the bytes once the segment that is being read is ended
abbrev pub closed_with : List ℕ → Option DraftLines → Result (List ℕ) (ℕ × LineFault)
closed_with bytes None = Ok bytes
closed_with bytes (Some h) = bytes_or_fault bytes (settled h) (draft_lines_fault (settled h))

unfoldable pub closed : Progress → Result (List ℕ) (ℕ × LineFault)
closed p = closed_with p.bytes p.draft

abbrev pub reopened : ℕ → Head → Result (List ℕ) (ℕ × LineFault) → Result Progress (ℕ × LineFault)
reopened line head (Ok bytes) = Ok (record { bytes = bytes; draft = Some (begun line head) })
reopened line head (Err fault) = Err fault

abbrev pub after_event : ℕ → LoneEvent → List ℕ → Option DraftLines → Result Progress (ℕ × LineFault)
after_event line e bytes None = Err (line, Order)
after_event line e bytes (Some h) = Ok (record { bytes = bytes; draft = Some (with_event e h) })

abbrev pub after_frame_of : ℕ → ℕ → List ℕ → DraftLines → Option Event → Result Progress (ℕ × LineFault)
after_frame_of line address bytes h None = Err (line, Order)
after_frame_of line address bytes h (Some e) = Ok (record { bytes = bytes; draft = Some (with_frame_of address h e) })

abbrev pub after_frame : ℕ → ℕ → List ℕ → Option DraftLines → Result Progress (ℕ × LineFault)
after_frame line address bytes None = Err (line, Order)
after_frame line address bytes (Some h) = after_frame_of line address bytes h h.event

-- what an item on a line does
abbrev pub after_item : ℕ → Item → Progress → Result Progress (ℕ × LineFault)
after_item line (item.Segment head) p = reopened line head (closed p)
after_item line (item.Event e) p = after_event line e p.bytes p.draft
after_item line (item.Frame address) p = after_frame line address p.bytes p.draft

abbrev pub after_form : ℕ → Result Item FormFault → Progress → Result Progress (ℕ × LineFault)
after_form line (Err fault) p = Err (line, Form fault)
after_form line (Ok i) p = after_item line i p

-- what a line with these words does
unfoldable pub after_words : ℕ → List (List ℕ) → Progress → Result Progress (ℕ × LineFault)
after_words line ws p = if is_skipped ws then Ok p else after_form line (item_in ws) p

abbrev pub go_on : Result Progress (ℕ × LineFault) → (Progress → Result (List ℕ) (ℕ × LineFault)) → Result (List ℕ) (ℕ × LineFault)
go_on (Ok p) next = next p
go_on (Err fault) next = Err fault

-- the outcome of reading these lines, which follow n others
unfoldable pub read : ℕ → List (List ℕ) → Progress → Result (List ℕ) (ℕ × LineFault)
read n [] p = closed p
read n (l ∷ ls) p = go_on (after_words (n + 1) (words_of l) p) (read (n + 1) ls)

-- memory is taken only while a segment's lines are being read
abbrev pub HasCause : Progress → TextFault → Type 0
HasCause p (text.Line line fault) = Unit {0}
HasCause p text.NoMemory = is_some p.draft ≡ true

-- memory is taken only for a text that begins with a segment
abbrev pub NeedsSegment : List ℕ → TextFault → Type 0
NeedsSegment bytes (text.Line line fault) = Unit {0}
NeedsSegment bytes text.NoMemory = begins (kept (lines_of_text bytes)) ≡ true

-- as far as reading goes, the text is this line and then the rest
abbrev pub StartsWithLine : List ℕ → List ℕ → List ℕ → Type 0
StartsWithLine text line rest =
    (n : ℕ) (p : Progress)
    → read n (lines_of_text text) p ≡ go_on (after_words (n + 1) (words_of line) p) (read (n + 1) (lines_of_text rest))

-- as far as reading goes, the text is the line of this frame and then the rest
abbrev pub StartsWithFrame : List ℕ → ℕ → List ℕ → Type 0
StartsWithFrame text address rest =
    (n : ℕ) (p : Progress)
    → read n (lines_of_text text) p ≡ go_on (after_frame (n + 1) address p.bytes p.draft) (read (n + 1) (lines_of_text rest))

-- how the fault of a draft is reported, from the line at which it begins and the fault of what is held of it
abbrev pub refused_of : ℕ → Option ℕ → Fault → TextFault
refused_of line (Some i) fault = text.Line line (Segment (overfull_fault i (Some fault)))
refused_of line None faults.NoMemory = text.NoMemory
refused_of line None fault = text.Line line (Segment fault)

abbrev pub IsReportedOfLine : ℕ → Option Fault → TextFault → Type 0
IsReportedOfLine line fault text.NoMemory = Unit {0}
IsReportedOfLine line fault (text.Line n (Segment f)) = (n ≡ line) × (fault ≡ Some f)
IsReportedOfLine line fault (text.Line n f) = ⊥

-- what comes of making a segment of a settled draft
abbrev pub IsBuilt : DraftLines → Result Content TextFault → Type 0
IsBuilt h (Ok segment) = (draft_lines_fault h ≡ None) × IsSegmentOf (held_draft h) segment
IsBuilt h (Err refused) = IsReportedOfLine h.line (draft_lines_fault h) refused

-- the refusal is this fault, or out of memory
abbrev pub Reports : {A : Type 0} → Result A (ℕ × LineFault) → TextFault → Type 0
Reports outcome (text.Line line fault) = outcome ≡ Err (line, fault)
Reports outcome text.NoMemory = Unit {0}
