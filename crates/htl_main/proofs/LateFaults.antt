-- Where a fault comes once all sources were read to their ends, they are read as by a run that ends well.
use Rattle.std.proofs.Common.{◌≢◌, ℕ, Bool, List, Result, Ok, Err, IfErr}
use Rattle.std.specs.Prelude.{⊤}
use Rattle.htl_device.specs.States.{SourceState}
use Rattle.htl_inputs.specs.Readings.{AreRead}
use Rattle.htl_inputs.specs.Sources.{EndsBefore}
use Rattle.htl_inputs.specs.declared.fault.RunFault.{RunFault}
use Rattle.htl_inputs.specs.declared.fault.RunFault.TheVariants.{Case, Hex, Read, Segment, StateStacks, Text, Workers, Write}
use Rattle.htl_inputs.proofs.ReadingLaws.{read_then, well}
use Rattle.htl_main.specs.Picking.{EndsAnswer}

-- why an answer over a case isn't made, or isn't written
abbrev pub EndsPrinting : RunFault → Type 0
EndsPrinting Write = ⊤
EndsPrinting fault = EndsAnswer fault

-- a fault of the case of all segments, of an answer over it, or of its state
abbrev pub IsLate : RunFault → Type 0
IsLate (Case fault) = ⊤
IsLate StateStacks = ⊤
IsLate fault = EndsPrinting fault

no_read : (fault : RunFault) (at : ℕ) → IsLate fault → fault ≢ Read at
no_read (Read other) at late is = late
no_read fault at late is = cc is

no_input : (fault : RunFault) (place : ℕ) → IsLate fault → EndsBefore fault place → ⊥
no_input Workers place late before = late
no_input (Segment input offset found) place late before = late
no_input (Hex input found) place late before = late
no_input (Text input line found event) place late before = late
no_input (Read input) place late before = late
no_input fault place late before = before

-- the sources are read so by a run that ends with such a fault
pub read_late : {S T : Type 0} (is_text : Bool) (old new : List SourceState) (value : S) (result : Result T RunFault)
    → AreRead is_text old new (well value) → IfErr result IsLate → AreRead is_text old new result
read_late is_text old new value (Ok done) read late = read_then is_text old new value (Ok done) read (λ at told. cc told) tt
read_late is_text old new value (Err fault) read late =
    read_then is_text old new value (Err fault) read (λ at told. no_read fault at late (cc told))
    (λ place before. no_input fault place late before)

pub printing_late : (fault : RunFault) → EndsPrinting fault → IsLate fault
printing_late (Case fault) ends = tt
printing_late StateStacks ends = tt
printing_late fault ends = ends
