-- What faults mean, in words (this project's own): what is wrong, with the part of the inputs that the fault names, and what to do.
use Rattle.std.specs.Prelude.{◌++◌, ℕ, Bool, true, false, List, Option, None, Some, codes, option_map}
use Rattle.htl_case.specs.declared.fault.CaseFault.{CaseFault}
use Rattle.htl_case.specs.declared.fault.CaseFault.TheVariants as cases
use Rattle.htl_command.specs.declared.code.Code.{Code}
use Rattle.htl_command.specs.declared.code.Code.TheVariants.{S1, S2, S3, S4, S5, S6, S7, S8, S9, S10, S11, S12, S13, S14, S15, S16, S17}
use Rattle.htl_command.specs.declared.code.Code.TheVariants.{H1, H2, H3}
use Rattle.htl_command.specs.declared.code.Code.TheVariants.{F1, F2, F3, F4, F5, F6, F7, F8, F9, F10, F11, F12, F13, F14, F15, F16, F17}
use Rattle.htl_command.specs.declared.code.Code.TheVariants.{C1, C2, C3, C4, C5, C6, C7, C8, C9, C10}
use Rattle.htl_command.specs.declared.code.Code.TheVariants.{Y1, Y2, Y3, Y4, Y5, Y6, Y7}
use Rattle.htl_command.specs.declared.code.Code.TheVariants.{E1, E2}
use Rattle.htl_program.specs.Parts.{part_text}
use Rattle.htl_program.specs.Words.{advice_of, form_wrong_of, give_missing, part_of, with_part, wrong_of}
use Rattle.htl_program.specs.declared.explained.named_part.NamedPart.{NamedPart}
use Rattle.htl_program.specs.declared.explained.named_part.NamedPart.TheVariants as parts
use Rattle.htl_question.specs.declared.subject.Subject.{Subject}
use Rattle.htl_segment.specs.declared.fault.Fault.{Fault}
use Rattle.htl_segment.specs.declared.fault.Fault.TheVariants as segments
use Rattle.htl_segment.specs.declared.hexadecimal.HexFault.{HexFault}
use Rattle.htl_segment.specs.declared.hexadecimal.HexFault.TheVariants as hexes
use Rattle.htl_state.specs.declared.fault.Fault.{Fault as StateFault}
use Rattle.htl_state.specs.declared.fault.Fault.TheVariants as states
use Rattle.htl_symbols.specs.declared.fault.SymbolFault.{SymbolFault}
use Rattle.htl_symbols.specs.declared.fault.SymbolFault.TheVariants as symbols
use Rattle.htl_text.specs.Fields.{field_name}
use Rattle.htl_text.specs.declared.fault.FormFault.{FormFault}
use Rattle.htl_text.specs.declared.fault.FormFault.TheVariants as forms
use Rattle.htl_text.specs.declared.fault.LineFault.{LineFault}
use Rattle.htl_text.specs.declared.fault.LineFault.TheVariants as lines
use Rattle.htl_text.specs.declared.field.Field.{Field}
use Rattle.hleak.specs.declared.explaining.meaning.Meaning.{Meaning}
use Rattle.hleak.specs.declared.explaining.task.Task.{Task}
use Rattle.hleak.specs.declared.reason.Reason.{Reason}
use Rattle.hleak.specs.Reasons.{advice_by, unsaved_advice_by, unsaved_by, wrong_by}
use Rattle.hleak.specs.Subjects.{part_at}

-- what is wrong with a part, or by itself, and what to do
abbrev pub said : Option NamedPart → List ℕ → List ℕ → List ℕ
said part wrong advice = with_part (option_map part_text part) wrong ++ (codes ": " ++ advice)

abbrev pub text_of : Meaning → List ℕ
text_of meaning = said meaning.part meaning.wrong.now meaning.advice.now

-- the words on a code, of a part that the fault names
unfoldable pub coded : Code → Option NamedPart → List ℕ
coded code part = said part (wrong_of code) (advice_of code)

abbrev pub segment_text : Fault → List ℕ
segment_text segments.Short = coded S1 None
segment_text segments.Magic = coded S2 None
segment_text segments.Version = coded S3 None
segment_text segments.Processors = coded S4 None
segment_text segments.Processor = coded S5 None
segment_text segments.Reserved = coded S6 None
segment_text segments.Number = coded S7 None
segment_text segments.Count = coded S8 None
segment_text segments.Length = coded S9 None
segment_text segments.Cut = coded S10 None
segment_text (segments.RecordShort i) = coded S11 (Some (parts.Record i))
segment_text (segments.Sequence i) = coded S12 (Some (parts.Record i))
segment_text (segments.Kind i) = coded S13 (Some (parts.Record i))
segment_text (segments.Frames i) = coded S14 (Some (parts.Record i))
segment_text (segments.Field i) = coded S15 (Some (parts.Record i))
segment_text segments.Excess = coded S16 None
segment_text segments.NoMemory = coded S17 None

abbrev pub hex_text : HexFault → List ℕ
hex_text (hexes.BadDigit place) = coded H1 (Some (parts.Byte place))
hex_text hexes.Odd = coded H2 None
hex_text hexes.NoMemory = coded H3 None

abbrev pub state_text : StateFault → List ℕ
state_text states.Short = coded F1 None
state_text states.Magic = coded F2 None
state_text states.Version = coded F3 None
state_text states.Reserved = coded F4 None
state_text states.Processors = coded F5 None
state_text states.Length = coded F6 None
state_text states.Checksum = coded F7 None
state_text states.List = coded F8 None
state_text states.Stack = coded F9 None
state_text states.Part = coded F10 None
state_text states.Count = coded F11 None
state_text states.Latest = coded F12 None
state_text states.Moment = coded F13 None
state_text states.Held = coded F14 None
state_text states.Excess = coded F15 None
state_text states.NoMemory = coded F16 None

-- a processor counts more than its segments can have
abbrev pub unbounded_text : ℕ → List ℕ
unbounded_text processor = coded F17 (Some (parts.Processor processor))

-- a field of a line, by its name
abbrev pub field_text : Field → List ℕ
field_text field = codes "the line's " ++ field_name field

abbrev pub form_text : FormFault → List ℕ
form_text forms.Words = said None (form_wrong_of forms.Words) (advice_of E1)
form_text (forms.Field field) = with_part (Some (field_text field)) (form_wrong_of (forms.Field field)) ++ (codes ": " ++ advice_of E1)

abbrev pub line_text : LineFault → List ℕ
line_text (lines.Form fault) = form_text fault
line_text lines.Order = coded E2 None
line_text (lines.Segment fault) = segment_text fault

abbrev pub case_text : Task → CaseFault → List ℕ
case_text task cases.Empty = coded C1 None
case_text task (cases.OtherTrace place) = coded C2 (Some (part_at task place))
case_text task (cases.OtherProcessors place) = coded C3 (Some (part_at task place))
case_text task (cases.TwoContents processor number) = coded C4 (Some (parts.Key processor number))
case_text task (cases.SequenceTwice sequence) = coded C5 (Some (parts.Sequence sequence))
case_text task cases.NoMemory = coded C6 None
case_text task (cases.Falling processor number) = coded C7 (Some (parts.Key processor number))

-- a segment is missing, where events are forgotten (`true`) or not
abbrev pub missing_text : Bool → ℕ → ℕ → List ℕ
missing_text false processor number = coded C8 (Some (parts.Key processor number))
missing_text true processor number = said (Some (parts.Key processor number)) (wrong_of C8) give_missing

-- an input is cut within a segment of which it isn't known which it is
abbrev pub unknown_cut_text : ℕ → List ℕ
unknown_cut_text input = coded C10 (Some (parts.Input input))

-- Nothing can be found of what was asked about, where the status would say that nothing was found. Why, and what to do, is said by whether
-- a moment was given, and a sequence since which is asked.
abbrev pub absent_wrong : Bool → Bool → List ℕ
absent_wrong false false = codes "has no event in these inputs"
absent_wrong true false = codes "has no event in these inputs, or none up to --until"
absent_wrong false true = codes "has no event in these inputs, or no event is above --since"
absent_wrong true true = codes "has no event in these inputs, or none up to --until, or no event that counts is above --since"

abbrev pub absent_advice : Bool → List ℕ
absent_advice true = codes "is each number right, and --until late enough? A mistyped number looks like one without a leak"
absent_advice false = codes "is each number right? A mistyped number looks like one without a leak"

abbrev pub absent_part : Option Subject → Option (List ℕ)
absent_part None = part_of C9
absent_part (Some subject) = Some (part_text (parts.Subject subject))

abbrev pub absent_text : Option Subject → Bool → Bool → List ℕ
absent_text subject has_moment has_since =
    with_part (absent_part subject) (absent_wrong has_moment has_since) ++ (codes ": " ++ absent_advice has_moment)

abbrev pub symbols_text : SymbolFault → List ℕ
symbols_text symbols.Header = coded Y1 None
symbols_text (symbols.Fields row) = coded Y2 (Some (parts.Row row))
symbols_text (symbols.Number row) = coded Y3 (Some (parts.Row row))
symbols_text (symbols.EmptyRange row) = coded Y4 (Some (parts.Row row))
symbols_text (symbols.Overlap row) = coded Y5 (Some (parts.Row row))
symbols_text (symbols.Csv row) = coded Y6 (Some (parts.Row row))
symbols_text symbols.NoMemory = coded Y7 None

-- faults without a code: an input that isn't read, an output that fails, a state that isn't saved, and refused memory, which has the words
-- of its codes
abbrev pub unread : Reason → List ℕ
unread reason = said None (wrong_by reason) (advice_by reason)

abbrev pub untaken : List ℕ
untaken = said None (codes "it didn't take the whole answer") (codes "is a disk full, or its reader gone?")

abbrev pub unsaved : Reason → List ℕ
unsaved reason = said None (unsaved_by reason) (unsaved_advice_by reason)

abbrev pub too_many_stacks : List ℕ
too_many_stacks = said None (codes "it would have more than 2^32 stacks") (codes "save states of fewer segments")

abbrev pub no_memory : List ℕ
no_memory = coded C6 None
