-- A run that ends after its segments were decoded ends for no failed read or write, but for what its segments come to.
use Rattle.std.proofs.Common.{◌≡◌, ◌≢◌, ℕ, Bool, false, List, Option, None, inl, inr, refl}
use Rattle.htl_device.specs.States.{SourceState}
use Rattle.htl_command.specs.declared.question.Format.TheVariants.{Plain}
use Rattle.htl_command.specs.declared.question.InputForm.{InputForm}
use Rattle.htl_command.specs.declared.question.Job.{Job}
use Rattle.htl_question.specs.declared.question.Question.TheVariants.{Summary}
use Rattle.htl_inputs.specs.CutInputs.{Decoding, IsDecoding}
use Rattle.htl_inputs.specs.Inputs.{IsReportedOfInput, StopsAtInput}
use Rattle.htl_inputs.specs.Readings.{AreRead}
use Rattle.htl_inputs.specs.Sources.{IsReportedAt}
use Rattle.htl_inputs.specs.declared.fault.RunFault.{RunFault}
use Rattle.htl_inputs.specs.declared.fault.RunFault.TheVariants.{Case, Hex, Incomplete, NoSubject, Segment, Symbols, Read, Write, Memory}
use Rattle.htl_inputs.specs.declared.fault.RunFault.TheVariants.{UnknownCut}
use Rattle.htl_inputs.proofs.ReadingLaws.{ill, well}
use Rattle.htl_main.specs.Origins.{IsBetween}
use Rattle.htl_main.specs.declared.origin.Between.{Between}
use Rattle.htl_main.specs.declared.origin.Between.TheVariants.{Nothing}
use Rattle.htl_main.specs.declared.refused.Refused.{Refused}
use Rattle.htl_main.specs.Printed.{WorkersFit}
use Rattle.htl_main.specs.Causes.{IsCause, IsCauseAfter, IsSourcesCause}
use Rattle.htl_main.proofs.LateFaults.{IsLate, read_late}

-- the causes of a refusal don't look at what the job asks, so this one stands for any
pub some_job : Job
some_job = record {
  question = Summary;
  setting = record { form = record { hex = false; partial = false }; workers = 1; complete = false };
  until = None;
  top = None;
  exit_code = false;
  format = Plain;
}

-- after its segments were decoded a run ends for no failed write
pub not_write : (given : Decoding) (symbols : Option (List ℕ)) (job : Job) (fault : RunFault) → IsCauseAfter given symbols job fault
    → fault ≢ Write
not_write given symbols job Write cause is = cause
not_write given symbols job fault cause is = cc is

-- but for a late fault
cause_late : (given : Decoding) (symbols : Option (List ℕ)) (job : Job) (fault : RunFault) → IsCauseAfter given symbols job fault → IsLate fault
cause_late given symbols job (Case found) cause = tt
cause_late given symbols job (Incomplete processor number) cause = tt
cause_late given symbols job (Symbols found) cause = tt
cause_late given symbols job (UnknownCut input) cause = tt
cause_late given symbols job NoSubject cause = tt
cause_late given symbols job Memory cause = tt
cause_late given symbols job fault cause = absurd cause

-- so the sources are read as by a run that ends well
pub reads_then : {S T : Type 0} (is_text : Bool) (old new : List SourceState) (value : S) (given : Decoding) (symbols : Option (List ℕ))
    (job : Job) (fault : RunFault) → AreRead is_text old new (well value) → IsCauseAfter given symbols job fault
    → AreRead is_text old new (ill {S = T} fault)
reads_then is_text old new value given symbols job fault read cause =
    read_late is_text old new value (ill fault) read (cause_late given symbols job fault cause)

-- why nothing comes of decoded segments is why the run over their inputs ends
pub cause_of : (job : Job) (inputs : List (List ℕ)) (symbols : Option (List ℕ)) (given : Decoding) (fault : RunFault)
    → WorkersFit job.setting.workers → IsDecoding job.setting.form inputs given → IsCauseAfter given symbols job fault
    → IsCause job inputs symbols fault
cause_of job inputs symbols given (Case found) fit decoded cause = (fit, given, decoded, cause)
cause_of job inputs symbols given (Incomplete processor number) fit decoded cause = (fit, given, decoded, cause)
cause_of job inputs symbols given (Symbols found) fit decoded cause = (fit, given, decoded, cause)
cause_of job inputs symbols given (UnknownCut input) fit decoded cause = (fit, given, decoded, cause)
cause_of job inputs symbols given NoSubject fit decoded cause = (fit, given, decoded, cause)
cause_of job inputs symbols given Memory fit decoded cause = (fit, inr (given, decoded, cause))
cause_of job inputs symbols given fault fit decoded cause = absurd cause

-- why nothing comes of decoded segments is why the run over their sources ends
pub sources_cause_of : (job : Job) (inputs : List (List ℕ)) (lefts : List (Option (List ℕ))) (ends : List Bool) (symbols : Option (List ℕ))
    (given : Decoding) (fault : RunFault) → WorkersFit job.setting.workers → IsDecoding job.setting.form inputs given
    → IsCauseAfter given symbols job fault → IsSourcesCause job inputs lefts ends symbols fault
sources_cause_of job inputs lefts ends symbols given (Read at) fit decoded cause = absurd cause
sources_cause_of job inputs lefts ends symbols given Memory fit decoded cause = (fit, inr (given, decoded, cause))
sources_cause_of job inputs lefts ends symbols given fault fit decoded cause = cause_of job inputs symbols given fault fit decoded cause

-- why the reading of sources stops is why the run over them ends
pub sources_stop : (job : Job) (inputs : List (List ℕ)) (lefts : List (Option (List ℕ))) (ends : List Bool) (symbols : Option (List ℕ))
    (fault : RunFault) → WorkersFit job.setting.workers
    → StopsAtInput job.setting.form (IsReportedAt job.setting.form lefts ends) inputs fault → IsSourcesCause job inputs lefts ends symbols fault
sources_stop job inputs lefts ends symbols (Segment at offset found) fit stops = (
  fit,
  record {
    place = stops.place;
    input = stops.input;
    here = stops.here;
    segments = stops.segments;
    before = stops.before;
    reported = stops.reported.4;
  },
)
sources_stop job inputs lefts ends symbols (Hex at found) fit stops = (
  fit,
  record {
    place = stops.place;
    input = stops.input;
    here = stops.here;
    segments = stops.segments;
    before = stops.before;
    reported = stops.reported.4;
  },
)
sources_stop job inputs lefts ends symbols (Read at) fit stops = (fit, stops)
sources_stop job inputs lefts ends symbols Memory fit stops = (fit, inl stops)
sources_stop job inputs lefts ends symbols fault fit stops = absurd (stops.reported.4)

-- and about no two segments
pub stop_about_none : (form : InputForm) (inputs all : List (List ℕ)) (lefts : List (Option (List ℕ))) (ends : List Bool) (fault : RunFault)
    → StopsAtInput form (IsReportedAt form lefts ends) inputs fault → IsBetween form all fault Nothing
stop_about_none form inputs all lefts ends (Case found) stops = absurd (stops.reported.4)
stop_about_none form inputs all lefts ends fault stops = refl

-- the same of inputs
pub inputs_stop : (job : Job) (inputs : List (List ℕ)) (symbols : Option (List ℕ)) (fault : RunFault) → WorkersFit job.setting.workers
    → StopsAtInput job.setting.form (IsReportedOfInput job.setting.form) inputs fault → IsCause job inputs symbols fault
inputs_stop job inputs symbols (Segment at offset found) fit stops = (fit, stops)
inputs_stop job inputs symbols (Hex at found) fit stops = (fit, stops)
inputs_stop job inputs symbols Memory fit stops = (fit, inl stops)
inputs_stop job inputs symbols fault fit stops = absurd (stops.reported)

-- which is no failed write
pub stop_no_write : (form : InputForm) (inputs : List (List ℕ)) (fault : RunFault) → StopsAtInput form (IsReportedOfInput form) inputs fault
    → fault ≢ Write
stop_no_write form inputs Write stops is = stops.reported
stop_no_write form inputs fault stops is = cc is

pub input_about_none : (form : InputForm) (inputs all : List (List ℕ)) (fault : RunFault)
    → StopsAtInput form (IsReportedOfInput form) inputs fault → IsBetween form all fault Nothing
input_about_none form inputs all (Case found) stops = absurd (stops.reported)
input_about_none form inputs all fault stops = refl

-- what is refused, by its parts
pub refused_is : (refused : Refused) {fault : RunFault} {between : Between} → refused.fault ≡ fault → refused.between ≡ between
    → refused ≡ record { fault = fault; between = between }
refused_is refused is about = λ i. record { fault = is i; between = about i }
