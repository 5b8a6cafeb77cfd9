-- Which item a line of a text has (this project's own), or else why it has none. A line is what stands between line feeds, without
-- one carriage return at its end, and counts by its words alone: blanks and tabs before, between and after them
-- may be any number.
use Rattle.std.specs.Prelude.{◌||◌, ◌==◌, ℕ, Bool, true, false, List, [], ◌∷◌, Option, Some, None, Result, Ok, Err, codes, drop, filter}
use Rattle.std.specs.Prelude.{if◌then◌else◌, map, nat_eq}
use Rattle.std.specs.List.{slice_split, starts_with}
use Rattle.std.specs.Str.{bytes_eq}
use Rattle.std.specs.Str.Lines.{strip_carriage_return}
use Rattle.htl_event.specs.declared.kind.Kind.{Kind}
use Rattle.htl_event.specs.declared.kind.Kind.TheVariants.{Opened, Closed, BadRef, Snapshot, Ref, Deref, Exited}
use Rattle.htl_text.specs.Fields.{Values, no_values, read_field}
use Rattle.htl_text.specs.declared.fault.FormFault.{FormFault}
use Rattle.htl_text.specs.declared.fault.FormFault.TheVariants.{Words as no_form, Field as bad_field}
use Rattle.htl_text.specs.declared.field.Field.{Field}
use Rattle.htl_text.specs.declared.field.Field.TheVariants.{Version, Trace, Processors, Processor, Number}
use Rattle.htl_text.specs.declared.field.Field.TheVariants.{Handle, Object, Tag, Sequence, Process, Thread, Frame}
use Rattle.htl_text.specs.declared.item.Item.{Item}
use Rattle.htl_text.specs.declared.item.Item.TheVariants as item

unfoldable pub lines_of_text : List ℕ → List (List ℕ)
lines_of_text text = map strip_carriage_return (slice_split (λ b. b == 10) text)

-- a byte order mark, with which some editors begin a file in UTF-8, is no part of the text
unfoldable pub without_mark : List ℕ → List ℕ
without_mark text = if starts_with nat_eq text (0xEF ∷ 0xBB ∷ 0xBF ∷ []) then drop 3 text else text

-- the lines of a whole text
abbrev pub text_lines : List ℕ → List (List ℕ)
text_lines text = lines_of_text (without_mark text)

-- a blank, which separates words: a space or a tab
abbrev pub is_blank : ℕ → Bool
is_blank b = b == 32 || b == 9

-- what stands between two blanks is a word, unless it is empty
abbrev pub is_word : List ℕ → Bool
is_word [] = false
is_word (b ∷ bs) = true

unfoldable pub words_of : List ℕ → List (List ℕ)
words_of line = filter is_word (slice_split is_blank line)

-- a line that says nothing: it has no word, or begins with `#`
unfoldable pub is_skipped : List (List ℕ) → Bool
is_skipped [] = true
is_skipped (w ∷ ws) = starts_with nat_eq w (codes "#")

-- a form of lines: its fields, in their order, and the item that their values say
pub record Form : Type 0 where
  pub fields : List Field
  pub says : Values → Item

abbrev pub segment_form : Form
segment_form = record {
  fields = Version ∷ Trace ∷ Processors ∷ Processor ∷ Number ∷ [];
  says = λ v. item.Segment (record {
    version = v.version;
    trace_id = v.trace;
    processors = v.processors;
    processor = v.processor;
    number = v.number;
  });
}

-- the fields of an event of each kind: what it is about, and then when it was and whose it is
abbrev pub event_fields : Kind → List Field
event_fields Opened = Handle ∷ Sequence ∷ Process ∷ Thread ∷ []
event_fields Closed = Handle ∷ Sequence ∷ Process ∷ Thread ∷ []
event_fields BadRef = Handle ∷ Sequence ∷ Process ∷ Thread ∷ []
event_fields Snapshot = Sequence ∷ Process ∷ Thread ∷ []
event_fields Exited = Sequence ∷ Process ∷ Thread ∷ []
event_fields Ref = Object ∷ Tag ∷ Sequence ∷ Process ∷ Thread ∷ []
event_fields Deref = Object ∷ Tag ∷ Sequence ∷ Process ∷ Thread ∷ []

abbrev pub event_form : Kind → Form
event_form kind = record {
  fields = event_fields kind;
  says = λ v. item.Event (record {
    sequence = v.sequence;
    kind = kind;
    process = v.process;
    thread = v.thread;
    handle = v.handle;
    object = v.object;
    tag = v.tag;
    stack = tt;
  });
}

abbrev pub frame_form : Form
frame_form = record { fields = Frame ∷ []; says = λ v. item.Frame v.frame }

-- the words after `BAD`
abbrev pub bad_form : List (List ℕ) → Option (Form × List (List ℕ))
bad_form [] = None
bad_form (w ∷ ws) = if bytes_eq w (codes "REF") then Some (event_form BadRef, ws) else None

-- the form whose words stand first, and the words of its fields; a frame has no word of its own, but begins with `0x`
unfoldable pub form_of : List (List ℕ) → Option (Form × List (List ℕ))
form_of [] = None
form_of (w ∷ ws) =
    if bytes_eq w (codes "segment") then Some (segment_form, ws)
    else if bytes_eq w (codes "OPEN") then Some (event_form Opened, ws)
    else if bytes_eq w (codes "CLOSE") then Some (event_form Closed, ws)
    else if bytes_eq w (codes "BAD") then bad_form ws
    else if bytes_eq w (codes "SNAPSHOT") then Some (event_form Snapshot, ws)
    else if bytes_eq w (codes "EXIT") then Some (event_form Exited, ws)
    else if bytes_eq w (codes "REF") then Some (event_form Ref, ws)
    else if bytes_eq w (codes "DEREF") then Some (event_form Deref, ws)
    else if starts_with nat_eq w (codes "0x") then Some (frame_form, w ∷ ws)
    else None

abbrev pub ended : List (List ℕ) → Values → Result Values FormFault
ended [] v = Ok v
ended (w ∷ ws) v = Err no_form

-- goes on with what was read of a field, or reports the field as the fault
abbrev pub after : Field → Option (Values × List (List ℕ)) → (List (List ℕ) → Values → Result Values FormFault) → Result Values FormFault
after f None next = Err (bad_field f)
after f (Some read) next = next read.1 read.0

-- the values of words that have these fields in this order, and no more words; or else the first field that the words don't have
unfoldable pub values_in : List Field → List (List ℕ) → Values → Result Values FormFault
values_in [] ws v = ended ws v
values_in (f ∷ fs) ws v = after f (read_field f ws v) (values_in fs)

abbrev pub said_by : (Values → Item) → Result Values FormFault → Result Item FormFault
said_by says (Ok v) = Ok (says v)
said_by says (Err fault) = Err fault

abbrev pub item_by : Option (Form × List (List ℕ)) → Result Item FormFault
item_by None = Err no_form
item_by (Some found) = said_by found.0.says (values_in found.0.fields found.1 no_values)

-- the item of a line with these words, if it has one of the forms
unfoldable pub item_in : List (List ℕ) → Result Item FormFault
item_in ws = item_by (form_of ws)
