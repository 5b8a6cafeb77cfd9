-- The parts of the inputs that faults name, in words (this project's own).
use Rattle.std.specs.Prelude.{◌++◌, ℕ, List, Option, None, Some, codes}
use Rattle.std.specs.Fmt.{decimal}
use Rattle.htl_command.specs.declared.code.Code.{Code}
use Rattle.htl_command.specs.declared.code.Code.TheVariants.{S11, S12, S13, S14, S15, H1, F17, C2, C3, C4, C5, C7, C8, C10}
use Rattle.htl_command.specs.declared.code.Code.TheVariants.{Y2, Y3, Y4, Y5, Y6, E1}
use Rattle.htl_command.specs.declared.printed.Parts.{Parts}
use Rattle.htl_command.specs.declared.printed.Parts.TheVariants.{Nothing, Number, Numbers, Field}
use Rattle.htl_program.specs.AskedAbout.{subject_text}
use Rattle.htl_program.specs.declared.explained.named_part.NamedPart.{NamedPart}
use Rattle.htl_program.specs.declared.explained.named_part.NamedPart.TheVariants as parts

-- a part of the inputs, by its number or its field; or what was asked about; or words that stand for each of them
abbrev pub part_text : NamedPart → List ℕ
part_text (parts.Record i) = codes "record " ++ decimal i
part_text (parts.Byte place) = codes "byte " ++ decimal place
part_text (parts.Processor processor) = codes "processor " ++ decimal processor
part_text (parts.Segment place) = codes "segment " ++ (decimal place ++ codes " of all inputs")
part_text (parts.Key processor number) = codes "segment " ++ (decimal number ++ (codes " of processor " ++ decimal processor))
part_text (parts.Sequence sequence) = codes "sequence " ++ decimal sequence
part_text (parts.Row row) = codes "row " ++ decimal row
part_text (parts.Field name) = codes "the line's " ++ name.now
part_text (parts.Subject subject) = subject_text subject
part_text (parts.Unnumbered words) = words.now
part_text (parts.Input input) = codes "input " ++ decimal input
part_text (parts.State place) = codes "state " ++ decimal place
part_text (parts.StateOrSegment place) =
    codes "state " ++ (decimal place ++ (codes " or segment " ++ (decimal place ++ codes " of all inputs")))

-- the part that the number of a fault names, or its two numbers, or its field
abbrev pub number_part : Code → ℕ → Option NamedPart
number_part S11 i = Some (parts.Record i)
number_part S12 i = Some (parts.Record i)
number_part S13 i = Some (parts.Record i)
number_part S14 i = Some (parts.Record i)
number_part S15 i = Some (parts.Record i)
number_part H1 place = Some (parts.Byte place)
number_part F17 processor = Some (parts.Processor processor)
number_part C2 place = Some (parts.Segment place)
number_part C3 place = Some (parts.Segment place)
number_part C5 sequence = Some (parts.Sequence sequence)
number_part C10 input = Some (parts.Input input)
number_part Y2 row = Some (parts.Row row)
number_part Y3 row = Some (parts.Row row)
number_part Y4 row = Some (parts.Row row)
number_part Y5 row = Some (parts.Row row)
number_part Y6 row = Some (parts.Row row)
number_part code n = None

abbrev pub numbers_part : Code → ℕ → ℕ → Option NamedPart
numbers_part C4 processor number = Some (parts.Key processor number)
numbers_part C7 processor number = Some (parts.Key processor number)
numbers_part C8 processor number = Some (parts.Key processor number)
numbers_part code m n = None

abbrev pub numbered_part : Code → Parts → Option NamedPart
numbered_part code Nothing = None
numbered_part code (Number n) = number_part code n
numbered_part code (Numbers m n) = numbers_part code m n
numbered_part E1 (Field name) = Some (parts.Field name)
numbered_part code (Field name) = None
