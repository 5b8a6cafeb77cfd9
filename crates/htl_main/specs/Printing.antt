-- For the clauses of private functions: what is printed over what was loaded, and why it isn't.
use Rattle.std.specs.Prelude.{◌≡◌, ⊤, ℕ, true, List, Option, None, Some, Result, Ok, Err}
use Rattle.std.specs.Io.KnownBytes.{Appends}
use Rattle.htl_device.specs.Devices.{AppendsPrefix}
use Rattle.htl_device.specs.States.{SinkState}
use Rattle.htl_segment.specs.Traces.{Trace}
use Rattle.htl_symbols.specs.Ranges.{Range}
use Rattle.htl_command.specs.declared.question.Job.{Job}
use Rattle.htl_inputs.specs.declared.fault.RunFault.{RunFault}
use Rattle.htl_inputs.specs.declared.fault.RunFault.TheVariants.{NoSubject, Memory, Write}
use Rattle.htl_main.specs.Printed.{IsText}
use Rattle.htl_main.specs.Remarks.{RemarksOver}
use Rattle.htl_main.specs.Runs.{LeavesSink}
use Rattle.htl_main.specs.Subjects.{HasAbsence}
use Rattle.htl_main.specs.declared.completed.Absence.{Absence}
use Rattle.htl_main.specs.declared.completed.Completed.{Completed}
use Rattle.htl_main.specs.declared.loading.Loaded.{Loaded}

-- The lines of the answer over a trace were written, or a first part of them.
pub record PrintsOver (T : Trace) (table : List Range) (job : Job) (Written : List ℕ → Type 0) : Type 0 where
  pub lines : List ℕ
  pub about : job.exit_code ≡ true → HasAbsence T job None
  pub is : IsText T table job lines
  pub written : Written lines

-- why not all lines of the answer were written
abbrev pub EndsOver : Trace → Job → RunFault → Type 0
EndsOver T job NoSubject = (job.exit_code ≡ true) × (absence : Absence) × HasAbsence T job (Some absence)
EndsOver T job Memory = ⊤
EndsOver T job Write = ⊤
EndsOver T job other = ⊥

-- what is reported beside the answer over what was loaded
pub record ReportsOver (loaded : Loaded) (job : Job) (completed : Completed) : Type 0 where
  pub coverage : completed.coverage ≡ loaded.coverage
  pub cut : completed.cut ≡ loaded.cut
  pub absence : HasAbsence loaded.case job completed.absence
  pub remarks : RemarksOver loaded.case loaded.symbols job completed.remarks

-- The answer was printed, and what is reported beside it holds; or there is a reason why not.
abbrev pub EndsAnswerOver : Loaded → Job → Option (List ℕ) → Option (List ℕ) → Result Completed RunFault → Type 0
EndsAnswerOver loaded job old new (Ok completed) =
    PrintsOver loaded.case loaded.symbols job (Appends old new) × ReportsOver loaded job completed
EndsAnswerOver loaded job old new (Err fault) =
    EndsOver loaded.case job fault × (fault ≡ Write → PrintsOver loaded.case loaded.symbols job (AppendsPrefix old new))

pub record PrintsAnswer (loaded : Loaded) (job : Job) (before after : SinkState) (result : Result Completed RunFault) : Type 0 where
  pub outcome : EndsAnswerOver loaded job before.contents after.contents result
  pub sink : LeavesSink before after result
