-- The words on each code: what is wrong, and what to do (this project's own). A word in angle brackets stands for a number or a
-- field of the fault.
use Rattle.std.specs.Prelude.{◌++◌, ◌∷◌, [], ℕ, List, Option, None, Some, codes, option_map}
use Rattle.std.specs.Fmt.{decimal}
use Rattle.std.specs.Option.{option_or}
use Rattle.htl_command.specs.Codes.{code_name}
use Rattle.htl_command.specs.declared.code.Code.{Code}
use Rattle.htl_command.specs.declared.code.Code.TheVariants.{S1, S2, S3, S4, S5, S6, S7, S8, S9, S10, S11, S12, S13, S14, S15, S16, S17}
use Rattle.htl_command.specs.declared.code.Code.TheVariants.{H1, H2, H3}
use Rattle.htl_command.specs.declared.code.Code.TheVariants.{F1, F2, F3, F4, F5, F6, F7, F8, F9, F10, F11, F12, F13, F14, F15, F16, F17}
use Rattle.htl_command.specs.declared.code.Code.TheVariants.{C1, C2, C3, C4, C5, C6, C7, C8, C9, C10}
use Rattle.htl_command.specs.declared.code.Code.TheVariants.{Y1, Y2, Y3, Y4, Y5, Y6, Y7}
use Rattle.htl_command.specs.declared.code.Code.TheVariants.{E1, E2}
use Rattle.htl_command.specs.declared.printed.Parts.{Parts}
use Rattle.htl_command.specs.declared.printed.Parts.TheVariants.{Nothing, Number, Numbers, Field}
use Rattle.htl_command.specs.declared.printed.PrintedFault.{PrintedFault}
use Rattle.htl_program.specs.Parts.{numbered_part, part_text}
use Rattle.htl_text.specs.declared.fault.FormFault.{FormFault}
use Rattle.htl_text.specs.declared.fault.FormFault.TheVariants as forms

-- what the words on a code begin with, where its faults name a part of the inputs, or what was asked about
abbrev pub part_of : Code → Option (List ℕ)
part_of S11 = Some (codes "record <i>")
part_of S12 = Some (codes "record <i>")
part_of S13 = Some (codes "record <i>")
part_of S14 = Some (codes "record <i>")
part_of S15 = Some (codes "record <i>")
part_of H1 = Some (codes "byte <place>")
part_of F17 = Some (codes "processor <processor>")
part_of C2 = Some (codes "segment <place> of all inputs")
part_of C3 = Some (codes "segment <place> of all inputs")
part_of C4 = Some (codes "segment <number> of processor <processor>")
part_of C5 = Some (codes "sequence <sequence>")
part_of C7 = Some (codes "segment <number> of processor <processor>")
part_of C8 = Some (codes "segment <number> of processor <processor>")
part_of C9 = Some (codes "what was asked about")
part_of C10 = Some (codes "input <input>")
part_of Y2 = Some (codes "row <row>")
part_of Y3 = Some (codes "row <row>")
part_of Y4 = Some (codes "row <row>")
part_of Y5 = Some (codes "row <row>")
part_of Y6 = Some (codes "row <row>")
part_of code = None

-- a line with none of the forms, and what is wrong with a field of one that has a form
abbrev pub no_form : List ℕ
no_form = codes "the line has none of the forms of the text"

abbrev pub bad_value : List ℕ
bad_value = codes "isn't there, or has no value that fits"

abbrev pub form_wrong_of : FormFault → List ℕ
form_wrong_of forms.Words = no_form
form_wrong_of (forms.Field field) = bad_value

-- what is wrong with that part, or by itself
unfoldable pub wrong_of : Code → List ℕ
wrong_of S1 = codes "fewer bytes are left than the 32 of a segment's header"
wrong_of S2 = codes "a segment begins with HLS1 (48 4c 53 31), and these bytes do not"
wrong_of S3 = codes "the segment's version is neither 1 nor 2"
wrong_of S4 = codes "the segment's version allows no such number of processors"
wrong_of S5 = codes "the segment's processor isn't below their number"
wrong_of S6 = codes "the header's reserved field isn't 0"
wrong_of S7 = codes "no segment has the number 0xffffffff"
wrong_of S8 = codes "a segment has at most 4096 records"
wrong_of S9 = codes "the segment's version allows no such length of a segment"
wrong_of S10 = codes "the file ends before its last segment does"
wrong_of S11 = codes "is cut by the end of the segment's length"
wrong_of S12 = codes "has sequence 0, or one not above that of the record before"
wrong_of S13 = codes "is of no kind of the segment's version"
wrong_of S14 = codes "has more frames than its version allows, or than fit in"
wrong_of S15 = codes "has a reserved field, handle, object or tag that its kind doesn't allow"
wrong_of S16 = codes "bytes are left in the segment after its last record"
wrong_of S17 = codes "the system refused memory"
wrong_of H1 = codes "is no digit and no blank"
wrong_of H2 = codes "the last byte has only one digit"
wrong_of H3 = codes "the system refused memory"
wrong_of F1 = codes "fewer bytes are left than the 40 of a state's header and end"
wrong_of F2 = codes "a state begins with HLA1 (48 4c 41 31), and these bytes do not"
wrong_of F3 = codes "the state's version isn't 1"
wrong_of F4 = codes "the header's reserved field isn't 0"
wrong_of F5 = codes "a state has 1 to 256 processors"
wrong_of F6 = codes "the length at the state's end isn't that of its bytes"
wrong_of F7 = codes "the checksum at the state's end isn't that of its bytes"
wrong_of F8 = codes "fewer bytes are left than the rows of a list take"
wrong_of F9 = codes "a stack is cut or too deep, or isn't above that before it"
wrong_of F10 = codes "fewer bytes are left than the 20 at the front of a part"
wrong_of F11 = codes "a count is cut, of no stack or slot, 0 on both sides, or not above that before it"
wrong_of F12 = codes "a latest event is cut, breaks a rule of its fields, is of no stack, or not above that before it"
wrong_of F13 = codes "a mark or an exit is cut, has sequence 0, or isn't above that before it"
wrong_of F14 = codes "a held segment has a fault, is of another trace or processor, or not above the front or that before it"
wrong_of F15 = codes "bytes are left after the state's last part"
wrong_of F16 = codes "the system refused memory"
wrong_of F17 = codes "counts more than its segments can have"
wrong_of C1 = codes "the inputs have no segments"
wrong_of C2 = codes "is of another trace than those before it"
wrong_of C3 = codes "has another number of processors than those before it"
wrong_of C4 = codes "is there with two different contents"
wrong_of C5 = codes "stands in two different segments"
wrong_of C6 = codes "the system refused memory"
wrong_of C7 = codes "has a sequence that isn't above those of the processor's earlier segments"
wrong_of C8 = codes "is missing"
wrong_of C9 = codes "has no event in these inputs, or none up to --until, or no event that counts is above --since"
wrong_of C10 =
    codes "ends within a segment's header, or within a segment of another trace, so it isn't known which segment is missing"
wrong_of Y1 = codes "the first line isn't start,end,module,name"
wrong_of Y2 = codes "hasn't four fields"
wrong_of Y3 = codes "has a start or an end that is no number"
wrong_of Y4 = codes "ends at or below its start"
wrong_of Y5 = codes "has an address of an earlier row"
wrong_of Y6 = codes "can't be read"
wrong_of Y7 = codes "the system refused memory"
wrong_of E1 = no_form ++ (codes ", or the line's <field> " ++ bad_value)
wrong_of E2 = codes "the line is an event or a frame before any segment, or a frame before any event"

-- what to do
abbrev pub damaged : List ℕ
damaged = codes "was the file changed, or is its writer at fault?"

abbrev pub mixed : List ℕ
mixed = codes "are they of one trace? If so, its writer is at fault"

abbrev pub free_memory : List ℕ
free_memory = codes "free some, or raise its limit"

abbrev pub one_trace : List ℕ
one_trace = codes "give the files of one trace"

-- The same where a segment is missing and events are forgotten: then no moment before it can be asked for.
abbrev pub give_missing : List ℕ
give_missing = codes "give what is missing, or leave out --complete"

unfoldable pub advice_of : Code → List ℕ
advice_of S1 = codes "is it a trace, and copied whole? With --partial its whole segments count"
advice_of S2 = codes "is it a trace in bytes, and not digits (--hex), text (hleak encode) or a log (tools/from-htrace)?"
advice_of S3 = codes "was it written for a newer hleak?"
advice_of S4 = damaged
advice_of S5 = damaged
advice_of S6 = damaged
advice_of S7 = damaged
advice_of S8 = damaged
advice_of S9 = damaged
advice_of S10 = codes "was it copied whole? With --partial its whole segments count"
advice_of S11 = damaged
advice_of S12 = damaged
advice_of S13 = damaged
advice_of S14 = damaged
advice_of S15 = damaged
advice_of S16 = damaged
advice_of S17 = free_memory
advice_of H1 = codes "is it a trace in bytes (without --hex), or a text (hleak encode)?"
advice_of H2 = codes "was it copied whole?"
advice_of H3 = free_memory
advice_of F1 = codes "was it copied whole?"
advice_of F2 = codes "did fold or save write it? Segments are no state"
advice_of F3 = codes "was it saved by a newer hleak?"
advice_of F4 = damaged
advice_of F5 = damaged
advice_of F6 = codes "was it copied whole?"
advice_of F7 = damaged
advice_of F8 = damaged
advice_of F9 = damaged
advice_of F10 = damaged
advice_of F11 = damaged
advice_of F12 = damaged
advice_of F13 = damaged
advice_of F14 = damaged
advice_of F15 = damaged
advice_of F16 = free_memory
advice_of F17 = damaged
advice_of C1 = codes "are these the files of a trace?"
advice_of C2 = one_trace
advice_of C3 = one_trace
advice_of C4 = codes "give the files of one trace, as they were written"
advice_of C5 = mixed
advice_of C6 = free_memory
advice_of C7 = mixed
advice_of C8 =
    codes "give all files of the trace. Without --complete, summary lists the gaps and --until complete answers what is final"
advice_of C9 = codes "is each number right, and --until late enough? A mistyped number looks like one without a leak"
advice_of C10 = codes "copy it whole, or leave out --complete"
advice_of Y1 = codes "is it a table of symbols?"
advice_of Y2 = codes "is a name with a comma in quotes, and is each quote ended?"
advice_of Y3 = codes "each is 1 to 16 hexadecimal digits, with or without 0x"
advice_of Y4 = codes "an end is the first address after the range"
advice_of Y5 = codes "are all rows of one moment?"
advice_of Y6 = codes "is the file in UTF-8?"
advice_of Y7 = free_memory
advice_of E1 = codes "is it written as dump prints it? Segments go to dump, and a log through tools/from-htrace first"
advice_of E2 = codes "is a line left out before it?"

-- what is wrong, after the part that it is wrong with
abbrev pub with_part : Option (List ℕ) → List ℕ → List ℕ
with_part None wrong = wrong
with_part (Some part) wrong = part ++ (32 ∷ wrong)

-- what the words on a fault begin with: the part with its numbers where the fault has them, and else what each fault of the code has
abbrev pub part_words : Code → Parts → Option (List ℕ)
part_words code which = option_or (option_map part_text (numbered_part code which)) (part_of code)

-- what is wrong with that part, or by itself: of a line whose field is named, the field's value
abbrev pub wrong_in : Code → Parts → List ℕ
wrong_in E1 (Field name) = bad_value
wrong_in code which = wrong_of code

abbrev pub after_code : Parts → List ℕ
after_code Nothing = []
after_code (Number n) = codes "(" ++ (decimal n ++ codes ")")
after_code (Numbers m n) = codes "(" ++ (decimal m ++ (codes ", " ++ (decimal n ++ codes ")")))
after_code (Field name) = codes "(" ++ (name.now ++ codes ")")

-- a fault as its line has it: its code, and what follows it in parentheses
abbrev pub printed_text : PrintedFault → List ℕ
printed_text fault = code_name fault.code ++ after_code fault.parts

-- what is printed of a fault: what is wrong in a line, and what to do in another
unfoldable pub explained : PrintedFault → List ℕ
explained fault =
    printed_text fault ++ (codes ": " ++ (with_part (part_words fault.code fault.parts) (wrong_in fault.code fault.parts)
    ++ (10 ∷ (advice_of fault.code ++ (10 ∷ [])))))
