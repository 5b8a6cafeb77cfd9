-- How the faults of the crates below are reported as faults of a run (this project's own): out of memory is one
-- fault wherever it comes, and every other one says of which input it is, or of what.
use Rattle.std.specs.Prelude.{◌≡◌, ℕ, List}
use Rattle.htl_device.specs.declared.whole.ReadFault.{ReadFault}
use Rattle.htl_device.specs.declared.whole.ReadFault.TheVariants as reads
use Rattle.htl_reading.specs.declared.digits.DigitsFault.{DigitsFault}
use Rattle.htl_reading.specs.declared.digits.DigitsFault.TheVariants as texts_of_digits
use Rattle.htl_reading.specs.declared.fault.SourceFault.{SourceFault}
use Rattle.htl_reading.specs.declared.fault.SourceFault.TheVariants as sources
use Rattle.htl_segment.specs.declared.fault.Fault.{Fault}
use Rattle.htl_segment.specs.declared.fault.Fault.TheVariants as faults
use Rattle.htl_segment.specs.declared.hexadecimal.HexFault.{HexFault}
use Rattle.htl_segment.specs.declared.hexadecimal.HexFault.TheVariants as digits
use Rattle.htl_case.specs.declared.fault.CaseFault.{CaseFault}
use Rattle.htl_case.specs.declared.fault.CaseFault.TheVariants as cases
use Rattle.htl_symbols.specs.declared.fault.SymbolFault.{SymbolFault}
use Rattle.htl_symbols.specs.declared.fault.SymbolFault.TheVariants as tables
use Rattle.htl_text.specs.Encoded.{event_line}
use Rattle.htl_text.specs.declared.fault.TextFault.{TextFault}
use Rattle.htl_text.specs.declared.fault.TextFault.TheVariants as texts
use Rattle.htl_inputs.specs.declared.fault.RunFault.{RunFault}
use Rattle.htl_inputs.specs.declared.fault.RunFault.TheVariants.{Segment, Hex, Text, Case, Symbols, Read, Memory}

-- of the bytes at an offset of an input
abbrev pub of_segment : ℕ → ℕ → Fault → RunFault
of_segment input offset faults.NoMemory = Memory
of_segment input offset fault = Segment input offset fault

-- of the digits of an input
abbrev pub of_hex : ℕ → HexFault → RunFault
of_hex input digits.NoMemory = Memory
of_hex input fault = Hex input fault

-- of a read of an input
abbrev pub of_read : ℕ → ReadFault → RunFault
of_read input reads.NoMemory = Memory
of_read input reads.Failed = Read input

-- of the reading of an input of digits
abbrev pub of_digits : ℕ → DigitsFault → RunFault
of_digits input (texts_of_digits.Foreign place) = Hex input (digits.BadDigit place)
of_digits input texts_of_digits.Odd = Hex input digits.Odd
of_digits input texts_of_digits.Read = Read input
of_digits input texts_of_digits.NoMemory = Memory

-- of the reading of an input of bytes
abbrev pub of_source : ℕ → SourceFault → RunFault
of_source input (sources.Segment offset fault) = Segment input offset fault
of_source input sources.Read = Read input
of_source input sources.NoMemory = Memory

-- of the segments as a case
abbrev pub of_case : CaseFault → RunFault
of_case cases.NoMemory = Memory
of_case fault = Case fault

-- of the symbols
abbrev pub of_symbols : SymbolFault → RunFault
of_symbols tables.NoMemory = Memory
of_symbols fault = Symbols fault

-- of the text of an input
abbrev pub of_text : ℕ → List ℕ → TextFault → RunFault
of_text input text texts.NoMemory = Memory
of_text input text (texts.Line line fault) = Text input line fault (event_line text line fault)

-- out of memory, whatever reports it
abbrev pub IsMemory : RunFault → Type 0
IsMemory fault = fault ≡ Memory
