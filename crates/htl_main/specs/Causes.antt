-- Why a run ends without its lines, also where that is no fault of what was given (this project's own).
use Rattle.std.specs.Prelude.{◌⊎◌, ℕ, Bool, List, Option, Ok, Err}
use Rattle.std.specs.Io.KnownBytes.{Appends}
use Rattle.htl_device.specs.Devices.{AppendsPrefix}
use Rattle.htl_segment.specs.Traces.{Trace}
use Rattle.htl_case.specs.Faults.{IsRefusal}
use Rattle.htl_case.specs.declared.fault.CaseFault.TheVariants as case_faults
use Rattle.htl_command.specs.declared.question.Job.{Job}
use Rattle.htl_inputs.specs.CutInputs.{Decoding, IsDecoding}
use Rattle.htl_inputs.specs.Inputs.{IsReportedOfInput, StopsAtInput}
use Rattle.htl_inputs.specs.Sources.{IsReportedAt}
use Rattle.htl_inputs.specs.declared.fault.RunFault.{RunFault}
use Rattle.htl_inputs.specs.declared.fault.RunFault.TheVariants.{Read, Write, Memory}
use Rattle.htl_main.specs.Printed.{IsPrinted, IsAcceptedCase, WorkersFit, Printed}

-- the known bytes of a sink got the printed lines
abbrev pub Prints : Job → List (List ℕ) → Option (List ℕ) → Option (List ℕ) → Option (List ℕ) → Type 0
Prints job inputs symbols old new = (lines : List ℕ) × Printed job inputs symbols (Ok lines) × Appends old new lines

-- the known bytes of a sink got some first part of the printed lines
abbrev pub PrintsPart : Job → List (List ℕ) → Option (List ℕ) → Option (List ℕ) → Option (List ℕ) → Type 0
PrintsPart job inputs symbols old new =
    (lines : List ℕ) × Printed job inputs symbols (Ok lines) × AppendsPrefix old new lines

-- Why nothing is printed of what was decoded. Memory is asked for where the rules of a case that take none hold.
abbrev pub IsCauseAfter : Decoding → Option (List ℕ) → Job → RunFault → Type 0
IsCauseAfter given symbols job Memory = IsRefusal given.segments case_faults.NoMemory ⊎ ((T : Trace) × IsAcceptedCase given job T)
IsCauseAfter given symbols job fault = IsPrinted given symbols job (Err fault)

-- Why a run ends: the first fault of what was given; or memory was refused where no fault came before, or the lines
-- could not be written. No run needs a thread, so none ends because one was refused.
abbrev pub IsCause : Job → List (List ℕ) → Option (List ℕ) → RunFault → Type 0
IsCause job inputs symbols Memory =
    WorkersFit job.setting.workers
    × (StopsAtInput job.setting.form (IsReportedOfInput job.setting.form) inputs Memory
    ⊎ ((given : Decoding) × IsDecoding job.setting.form inputs given × IsCauseAfter given symbols job Memory))
IsCause job inputs symbols Write = (lines : List ℕ) × Printed job inputs symbols (Ok lines)
IsCause job inputs symbols fault = Printed job inputs symbols (Err fault)

-- Why a run over sources of these bytes ends: as one over the bytes does, or at a source that could not be read, or
-- for which memory was refused.
abbrev pub IsSourcesCause : Job → List (List ℕ) → List (Option (List ℕ)) → List Bool → Option (List ℕ) → RunFault → Type 0
IsSourcesCause job inputs lefts ends symbols (Read at) =
    WorkersFit job.setting.workers × StopsAtInput job.setting.form (IsReportedAt job.setting.form lefts ends) inputs (Read at)
IsSourcesCause job inputs lefts ends symbols Memory =
    WorkersFit job.setting.workers
    × (StopsAtInput job.setting.form (IsReportedAt job.setting.form lefts ends) inputs Memory
    ⊎ ((given : Decoding) × IsDecoding job.setting.form inputs given × IsCauseAfter given symbols job Memory))
IsSourcesCause job inputs lefts ends symbols fault = IsCause job inputs symbols fault
