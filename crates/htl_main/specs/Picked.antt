-- A run that keeps of its inputs only what its question asks about (this project's own).
use Rattle.std.specs.Prelude.{◌≡◌, ◌≢◌, ℕ, List, [], Option, Result, Ok, Err, IfErr}
use Rattle.htl_event.specs.declared.interest.Interest.{Interest}
use Rattle.htl_event.specs.declared.interest.Interest.TheVariants.{OpenHandles}
use Rattle.htl_event.specs.Interests.{wanted}
use Rattle.htl_event.specs.Moments.{counted_events}
use Rattle.htl_segment.specs.Content.{Content}
use Rattle.htl_segment.specs.Traces.{Trace, all_events}
use Rattle.htl_case.specs.Cases.{IsCaseOf}
use Rattle.htl_case.specs.Picked.{NeedsWhole}
use Rattle.htl_case.specs.declared.fault.CaseFault.{CaseFault}
use Rattle.htl_command.specs.declared.question.Job.{Job}
use Rattle.htl_inputs.specs.CutInputs.{AreCut}
use Rattle.htl_inputs.specs.Inputs.{DecodeAll}
use Rattle.htl_inputs.specs.declared.fault.RunFault.{RunFault}
use Rattle.htl_inputs.specs.declared.fault.RunFault.TheVariants.{Case}
use Rattle.htl_main.specs.Coverages.{Covers}
use Rattle.htl_main.specs.Moments.{IsNamedMoment}
use Rattle.htl_main.specs.Remarks.{ReportsRemarks}
use Rattle.htl_main.specs.Subjects.{ReportsAbsence}
use Rattle.htl_main.specs.declared.completed.Completed.{Completed}
use Rattle.htl_main.specs.declared.picks.Lacking.{Lacking}
use Rattle.htl_main.specs.declared.picks.Lacking.TheVariants as lacking
use Rattle.htl_main.specs.declared.picks.Unpicked.{Unpicked}
use Rattle.htl_main.specs.declared.picks.Unpicked.TheVariants as unpicked

-- what is reported beside the answer holds of the inputs
pub record Reports (job : Job) (inputs : List (List ℕ)) (symbols : Option (List ℕ)) (completed : Completed) : Type 0 where
  pub coverage : Covers job.setting.form inputs completed.coverage
  pub cut : AreCut job.setting.form.hex inputs completed.cut
  pub absence : ReportsAbsence inputs job completed.absence
  pub remarks : ReportsRemarks job inputs symbols completed.remarks

-- Only the open handles of a process were asked about, and no event of the case that counts tells of them: whether the process has an
-- event of another kind, the picks don't tell.
pub record TellsOfNoHandle (interest : Interest) (segments : List Content) (job : Job) : Type 0 where
  pub trace : Trace
  pub case_of : IsCaseOf segments trace
  pub until : Option ℕ
  pub named : IsNamedMoment trace job.until until
  pub process : ℕ
  pub about : interest ≡ OpenHandles process
  pub none : wanted interest (counted_events until (all_events trace.segments)) ≡ []

-- What was picked of these segments doesn't tell what the job comes to, for want of this.
abbrev pub IsLackOf : Interest → List Content → Job → Lacking → Type 0
IsLackOf interest segments job lacking.Process = TellsOfNoHandle interest segments job
IsLackOf interest segments job lacking.Segments = NeedsWhole segments

-- What was picked of these inputs doesn't tell what the job comes to, for want of this.
abbrev pub Lacks : Interest → Job → List (List ℕ) → Lacking → Type 0
Lacks interest job inputs lack =
    (segments : List Content) × DecodeAll job.setting.form inputs segments × IsLackOf interest segments job lack

-- how a run of picks ends by what it reports: well, also where something is lacking, or for a fault
abbrev pub by_refusal : Result Completed Unpicked → Result (Unit {0}) RunFault
by_refusal (Ok completed) = Ok tt
by_refusal (Err (unpicked.Lacking lack)) = Ok tt
by_refusal (Err (unpicked.Refused fault)) = Err fault

-- no rule of a case is reported as broken
abbrev pub NeverCase : {S : Type 0} → Result S RunFault → Type 0
NeverCase result = IfErr result (λ fault. (broken : CaseFault) → fault ≢ Case broken)
