-- What is answered over what was loaded is what a run prints, and what a run reports beside it holds of the inputs.
use Rattle.std.proofs.Common.{◌≡◌, ℕ, Bool, true, List, Option, None, inr, refl}
use Rattle.std.specs.Prelude.{Ok}
use Rattle.htl_device.specs.Devices.{AppendsPrefix}
use Rattle.htl_segment.specs.Traces.{Trace}
use Rattle.htl_symbols.specs.Ranges.{Range}
use Rattle.htl_command.specs.declared.question.InputForm.{InputForm}
use Rattle.htl_command.specs.declared.question.Job.{Job}
use Rattle.htl_command.specs.declared.question.Setting.{Setting}
use Rattle.htl_inputs.specs.CutInputs.{AreCut, Decoding, IsDecoding}
use Rattle.htl_inputs.specs.declared.fault.RunFault.{RunFault}
use Rattle.htl_inputs.specs.declared.fault.RunFault.TheVariants.{Memory, NoSubject, Write}
use Rattle.htl_main.specs.Causes.{IsCause, IsSourcesCause}
use Rattle.htl_main.specs.Coverages.{Covers, IsCoverage}
use Rattle.htl_main.specs.Loading.{AreLoaded, AreLoadedOf, in_setting}
use Rattle.htl_main.specs.Origins.{IsBetween}
use Rattle.htl_main.specs.Printed.{IsText, Printed, WorkersFit}
use Rattle.htl_main.specs.Picked.{Reports}
use Rattle.htl_main.specs.Printing.{EndsOver, PrintsOver, ReportsOver}
use Rattle.htl_main.specs.Runs.{IsRefusedRun}
use Rattle.htl_main.specs.Remarks.{RemarksOver, ReportsRemarks}
use Rattle.htl_main.specs.Subjects.{HasAbsence, ReportsAbsence}
use Rattle.htl_main.specs.declared.completed.Absence.{Absence}
use Rattle.htl_main.specs.declared.completed.Completed.{Completed}
use Rattle.htl_main.specs.declared.coverage.Coverage.{Coverage}
use Rattle.htl_main.specs.declared.origin.Between.TheVariants.{Nothing}
use Rattle.htl_main.specs.declared.loading.Loaded.{Loaded}
use Rattle.htl_main.specs.declared.remarks.Remarks.{Remarks}
use Rattle.htl_main.proofs.LateFaults.{IsLate}
use Rattle.htl_main.proofs.MomentLaws.{complete_until}

-- what a run loads of its inputs, where its workers fit
pub loaded_of : (job : Job) (inputs : List (List ℕ)) (symbols : Option (List ℕ)) (given : Decoding) (T : Trace) (table : List Range)
    → WorkersFit job.setting.workers → IsDecoding job.setting.form inputs given → AreLoaded given symbols job.setting.complete job.until T table
    → AreLoadedOf inputs symbols job.setting job.until T table
loaded_of job inputs symbols given T table workers decoded loaded =
    record { workers = workers; given = given; decoded = decoded; loaded = loaded }

-- what is loaded for answers as of the end is loaded for one as of whichever moment
pub as_of : (inputs : List (List ℕ)) (symbols : Option (List ℕ)) (setting : Setting) (job : Job) (T : Trace) (table : List Range)
    → AreLoadedOf inputs symbols setting None T table → AreLoadedOf inputs symbols setting job.until T table
as_of inputs symbols setting job T table loaded = record {
  workers = loaded.workers;
  given = loaded.given;
  decoded = loaded.decoded;
  loaded = record {
    case = loaded.loaded.case;
    whole = λ complete. complete_until T loaded.given.cuts job.until (loaded.loaded.whole complete);
    named = loaded.loaded.named;
  };
}

module _ (setting : Setting) (inputs : List (List ℕ)) (symbols : Option (List ℕ)) (T : Trace) (table : List Range) (job : Job)
    (loaded : AreLoadedOf inputs symbols setting job.until T table) where
  -- the text of the answer over what was loaded is what a run of the job prints
  pub runs_text : (lines : List ℕ) → (job.exit_code ≡ true → HasAbsence T job None) → IsText T table job lines
      → Printed (in_setting setting job) inputs symbols (Ok lines)
  runs_text lines about is = (
    loaded.workers,
    loaded.given,
    loaded.decoded,
    record {
      trace = T;
      taken = (loaded.loaded.case, loaded.loaded.whole);
      table = table;
      named = loaded.loaded.named;
      about = about;
      is = is;
    },
  )

  -- what was printed over what was loaded is what a run of the job prints
  pub prints : (Written : List ℕ → Type 0) → PrintsOver T table job Written
      → (lines : List ℕ) × Printed (in_setting setting job) inputs symbols (Ok lines) × Written lines
  prints Written over = (over.lines, runs_text over.lines over.about over.is, over.written)

  -- the coverage of what was loaded is that of the inputs
  pub runs_coverage : (coverage : Coverage) → IsCoverage T coverage → Covers setting.form inputs coverage
  runs_coverage coverage is = (loaded.given.segments, loaded.decoded.segments, (T, loaded.loaded.case, is))

  -- why nothing can be found in what was loaded is what a run of the job reports
  pub runs_absence : (absence : Option Absence) → HasAbsence T job absence → ReportsAbsence inputs (in_setting setting job) absence
  runs_absence absence over = (loaded.given.segments, loaded.decoded.segments, (T, loaded.loaded.case, over))

  -- what is told of the answer over what was loaded is told of that of a run of the job
  pub runs_remarks : (remarks : Remarks) → RemarksOver T table job remarks → ReportsRemarks (in_setting setting job) inputs symbols remarks
  runs_remarks remarks over =
      (loaded.given.segments, loaded.decoded.segments, (T, loaded.loaded.case, table, loaded.loaded.named, over))

  -- why it isn't printed
  pub ends : (fault : RunFault) → EndsOver T job fault → (fault ≡ Write → (lines : List ℕ) × Printed (in_setting setting job) inputs symbols (Ok lines))
      → IsCause (in_setting setting job) inputs symbols fault
  ends NoSubject over written = (
    loaded.workers,
    loaded.given,
    loaded.decoded,
    (over.0, T, (loaded.loaded.case, loaded.loaded.whole), table, loaded.loaded.named, over.1, over.2),
  )
  ends Memory over written = (
    loaded.workers,
    inr (loaded.given, loaded.decoded, inr (T, (loaded.loaded.case, loaded.loaded.whole))),
  )
  ends Write over written = written refl
  ends fault over written = absurd over

  -- why nothing is answered over what was loaded is why a run of the job over the sources ends
  pub sources_end : (lefts : List (Option (List ℕ))) (ended : List Bool) (fault : RunFault) → EndsOver T job fault
      → (fault ≡ Write → (lines : List ℕ) × Printed (in_setting setting job) inputs symbols (Ok lines))
      → IsSourcesCause (in_setting setting job) inputs lefts ended symbols fault
  sources_end lefts ended NoSubject over written = ends NoSubject over written
  sources_end lefts ended Memory over written = (
    loaded.workers,
    inr (loaded.given, loaded.decoded, inr (T, (loaded.loaded.case, loaded.loaded.whole))),
  )
  sources_end lefts ended Write over written = written refl
  sources_end lefts ended fault over written = absurd over

-- what ends it so is a late fault
pub over_late : (T : Trace) (job : Job) (fault : RunFault) → EndsOver T job fault → IsLate fault
over_late T job NoSubject over = tt
over_late T job Memory over = tt
over_late T job Write over = tt
over_late T job fault over = absurd over

-- and is about no two segments
pub over_about_none : (form : InputForm) (inputs : List (List ℕ)) (T : Trace) (job : Job) (fault : RunFault) → EndsOver T job fault
    → IsBetween form inputs fault Nothing
over_about_none form inputs T job NoSubject over = refl
over_about_none form inputs T job Memory over = refl
over_about_none form inputs T job Write over = refl
over_about_none form inputs T job fault over = absurd over

-- ---- how a run ends that answers over what was loaded

module _ (job : Job) (inputs : List (List ℕ)) (symbols : Option (List ℕ)) (loaded : Loaded)
    (of : AreLoadedOf inputs symbols job.setting job.until loaded.case loaded.symbols) where
  -- what is reported beside the answer holds of the inputs
  pub reports_of : (completed : Completed) → IsCoverage loaded.case loaded.coverage → AreCut job.setting.form.hex inputs loaded.cut
      → ReportsOver loaded job completed → Reports job inputs symbols completed
  reports_of completed covered cut over = record {
    coverage = rw (over.coverage) (runs_coverage job.setting inputs symbols loaded.case loaded.symbols job of loaded.coverage covered);
    cut = rw (over.cut) cut;
    absence = runs_absence job.setting inputs symbols loaded.case loaded.symbols job of completed.absence over.absence;
    remarks = runs_remarks job.setting inputs symbols loaded.case loaded.symbols job of completed.remarks over.remarks;
  }

  -- where the answer isn't printed, the run is refused for the same, which is about no two segments
  pub refused_over : (Cause : RunFault → Type 0) (old new : Option (List ℕ)) (fault : RunFault)
      → ((fault ≡ Write → (lines : List ℕ) × Printed job inputs symbols (Ok lines)) → Cause fault) → EndsOver loaded.case job fault
      → (fault ≡ Write → PrintsOver loaded.case loaded.symbols job (AppendsPrefix old new))
      → IsRefusedRun Cause job inputs symbols old new (record { fault = fault; between = Nothing })
  refused_over Cause old new fault cause over part =
      let written : fault ≡ Write → (lines : List ℕ) × Printed job inputs symbols (Ok lines) × AppendsPrefix old new lines = λ told.
      prints job.setting inputs symbols loaded.case loaded.symbols job of (AppendsPrefix old new) (part told) in
      record {
        cause = cause (λ told. let some = written told in (some.0, some.1));
        between = over_about_none job.setting.form inputs loaded.case job fault over;
        written = written;
      }
