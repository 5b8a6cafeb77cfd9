-- The text of a segment, as bytes (this project's own): a line for each of its items.
use Rattle.std.specs.Prelude.{◌++◌, ◌∷◌, [], ◌&&◌, ℕ, List, Bool, codes, flat_map, if◌then◌else◌, nat_le}
use Rattle.std.specs.List.{list_all}
use Rattle.std.specs.Fmt.{decimal}
use Rattle.std.specs.Int.{from_be_bytes, w32}
use Rattle.htl_event.specs.Events.{Event}
use Rattle.htl_event.specs.Words.{word_of}
use Rattle.htl_event.specs.declared.event.Event.{Event as EventWith}
use Rattle.htl_event.specs.declared.kind.Kind.{Kind}
use Rattle.htl_event.specs.declared.kind.Kind.TheVariants.{Opened, Closed, BadRef, Snapshot, Ref, Deref, Exited}
use Rattle.htl_numbers.specs.Written.{hex, padded}
use Rattle.htl_segment.specs.Content.{Content}
use Rattle.htl_text.specs.Items.{head_of}
use Rattle.htl_text.specs.declared.item.Head.{Head}

-- what ends every line
abbrev pub line_feed : List ℕ
line_feed = 10 ∷ []

unfoldable pub place_part : ℕ → ℕ → ℕ → List ℕ
place_part processors processor number =
    codes " processors=" ++ (decimal processors ++ (codes " processor=" ++ (decimal processor ++ (codes " number="
    ++ (decimal number ++ line_feed)))))

unfoldable pub version_part : ℕ → List ℕ
version_part version = codes "segment version=" ++ (decimal version ++ codes " trace=0x")

unfoldable pub head_line : Head → List ℕ
head_line h = version_part h.version ++ (padded 16 h.trace_id ++ place_part h.processors h.processor h.number)

-- a printable byte that is no blank
abbrev pub is_visible : ℕ → Bool
is_visible b = nat_le 0x21 b && nat_le b 0x7E

-- a tag's four bytes as themselves where all can be seen, and else in eight digits
unfoldable pub tag_text : List ℕ → List ℕ
tag_text tag = if list_all is_visible tag then tag else codes "0x" ++ padded 8 (from_be_bytes w32 tag)

unfoldable pub handle_part : ℕ → List ℕ
handle_part handle = codes " handle=0x" ++ hex handle

unfoldable pub object_part : ℕ → List ℕ → List ℕ
object_part object tag = codes " object=0x" ++ (padded 16 object ++ (codes " tag=" ++ tag_text tag))

-- what an event of the kind is about: the handle as written, or an object and a tag
abbrev pub subject : Kind → ℕ → ℕ → List ℕ → List ℕ
subject Opened handle object tag = handle_part handle
subject Closed handle object tag = handle_part handle
subject BadRef handle object tag = handle_part handle
subject Snapshot handle object tag = []
subject Ref handle object tag = object_part object tag
subject Deref handle object tag = object_part object tag
subject Exited handle object tag = []

-- when an event was, and whose it is
unfoldable pub origin : ℕ → ℕ → ℕ → List ℕ
origin sequence process thread =
    codes " seq=" ++ (decimal sequence ++ (codes " process=" ++ (decimal process ++ (codes " thread=" ++ (decimal thread ++ line_feed)))))

unfoldable pub event_line : {S : Type 0} → EventWith S → List ℕ
event_line e = word_of e.kind ++ (subject e.kind e.handle e.object e.tag ++ origin e.sequence e.process e.thread)

unfoldable pub frame_line : ℕ → List ℕ
frame_line address = codes "  0x" ++ (padded 16 address ++ line_feed)

-- an event's line, and its frames', the innermost call first
abbrev pub event_text : Event → List ℕ
event_text e = event_line e ++ flat_map frame_line e.stack

abbrev pub segment_text : Content → List ℕ
segment_text s = head_line (head_of s) ++ flat_map event_text s.events
