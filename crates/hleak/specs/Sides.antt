-- A segment that a fault sets against another (this project's own).
use Rattle.std.specs.Prelude.{◌++◌, ◌==◌, ℕ, List, codes, if◌then◌else◌}
use Rattle.std.specs.Fmt.{decimal}
use Rattle.htl_case.specs.declared.fault.CaseFault.{CaseFault}
use Rattle.htl_case.specs.declared.fault.CaseFault.TheVariants.{OtherTrace, OtherProcessors}
use Rattle.htl_main.specs.declared.origin.Origin.{Origin}
use Rattle.hleak.specs.declared.explaining.side.SegmentLabel.{SegmentLabel}
use Rattle.hleak.specs.declared.explaining.side.SegmentLabel.TheVariants.{Trace, Processors, Key}
use Rattle.htl_numbers.specs.Written.{padded}
use Rattle.hleak.specs.Shown.{shown_name}

-- what tells it from the other: its trace or the number of that trace's processors where these differ, and else its key
abbrev pub label_of : CaseFault → Origin → SegmentLabel
label_of (OtherTrace place) origin = Trace origin.trace_id
label_of (OtherProcessors place) origin = Processors origin.processors
label_of fault origin = Key origin.processor origin.number

-- one processor, or several
abbrev pub processor_word : ℕ → List ℕ
processor_word count = if count == 1 then codes "processor" else codes "processors"

abbrev pub label_text : SegmentLabel → List ℕ
label_text (Trace id) = codes "trace 0x" ++ padded 16 id
label_text (Processors count) = decimal count ++ (codes " " ++ processor_word count)
label_text (Key processor number) = codes "processor " ++ (decimal processor ++ (codes ", segment " ++ decimal number))

-- its file, and what tells it from the other
abbrev pub side_text : List ℕ → SegmentLabel → List ℕ
side_text file label = shown_name file ++ (codes " (" ++ (label_text label ++ codes ")"))
