-- A run of picks is one of the segments of all its inputs, and it ends for the same causes.
use Rattle.std.proofs.Common.{◌≡◌, ◌≢◌, ℕ, Bool, false, List, [], ◌∷◌, All, Option, Result, Ok, Err, refl}
use Rattle.std.specs.Prelude.{IfErr}
use Rattle.std.specs.Io.KnownBytes.{Appends}
use Rattle.std.proofs.lemmas.List.Elements.{All-nil, All-append}
use Rattle.std.proofs.lemmas.Result.{IfErr-weaker}
use Rattle.htl_device.specs.Devices.{AppendsPrefix}
use Rattle.htl_device.specs.States.{SinkState, SourceState, ends, lefts}
use Rattle.htl_event.specs.declared.interest.Interest.{Interest}
use Rattle.htl_segment.specs.Content.{Content, Fits}
use Rattle.htl_segment.specs.Picks.{ArePicksOf}
use Rattle.htl_segment.specs.Traces.{Trace}
use Rattle.htl_segment.specs.declared.picks.Picks.{Picks}
use Rattle.htl_case.specs.Cases.{IsCaseOf}
use Rattle.htl_case.specs.Picked.{Picked, IsPickedOf}
use Rattle.htl_command.specs.declared.question.InputForm.{InputForm}
use Rattle.htl_command.specs.declared.question.Job.{Job}
use Rattle.htl_inputs.specs.CutInputs.{AreCutEnds, Decoding, IsDecoding, decoding}
use Rattle.htl_inputs.specs.Inputs.{DecodeAll}
use Rattle.htl_inputs.specs.Reads.{ReadsAll, StopsIn}
use Rattle.htl_inputs.specs.declared.cuts.CutEnd.{CutEnd}
use Rattle.htl_inputs.specs.declared.fault.RunFault.{RunFault}
use Rattle.htl_inputs.specs.declared.fault.RunFault.TheVariants.{Case, Incomplete, NoSubject, Symbols, Memory, UnknownCut, Write}
use Rattle.htl_main.specs.Causes.{IsCauseAfter, Prints, PrintsPart, IsSourcesCause}
use Rattle.htl_main.specs.Picked.{IsLackOf, NeverCase, Reports, by_refusal}
use Rattle.htl_main.specs.Picking.{AreAllPicked, ArePicksOfAll, EndsAnswer, IsPickedFor, ReportsOf}
use Rattle.htl_main.specs.Printed.{AreAnswerLines, WorkersFit}
use Rattle.htl_main.specs.Runs.{EndsPicking, IsPicked, LeavesSink}
use Rattle.htl_main.specs.declared.completed.Completed.{Completed}
use Rattle.htl_main.specs.declared.picks.Lacking.{Lacking}
use Rattle.htl_main.specs.declared.picks.Unpicked.{Unpicked}
use Rattle.htl_main.specs.declared.picks.Unpicked.TheVariants as unpicked
use Rattle.htl_main.specs.declared.picks.picking.AllPicks.{AllPicks}
use Rattle.htl_main.proofs.AfterDecoding.{sources_cause_of}
use Rattle.htl_main.proofs.LateFaults.{EndsPrinting, printing_late, read_late}

-- ---- what was picked

-- these are picks of these segments
pub record ArePickedFor (interest : Interest) (picks : Picks) (segments : List Content) : Type 0 where
  pub picks_of : ArePicksOf interest picks segments
  pub fits : All Fits segments

decoded_fit : (form : InputForm) (inputs : List (List ℕ)) (segments : List Content) → DecodeAll form inputs segments → All Fits segments
decoded_fit form [] segments decoded = rw decoded (All-nil Fits)
decoded_fit form (input ∷ inputs) segments decoded =
    rw decoded.4 (All-append Fits decoded.0 decoded.1 decoded.2.splits.fits (decoded_fit form inputs decoded.1 decoded.3))

-- the segments of all inputs, of which the picks are
record IsPickedRun (job : Job) (interest : Interest) (inputs : List (List ℕ)) (picks : Picks) : Type 0 where
  pub segments : List Content
  pub decoded : DecodeAll job.setting.form inputs segments
  pub picked : ArePickedFor interest picks segments

-- these segments and the cut ends are what the inputs are decoded to
given_is : (job : Job) (interest : Interest) (inputs : List (List ℕ)) (picks : Picks) (run : IsPickedRun job interest inputs picks) (cuts : List CutEnd)
    → AreCutEnds job.setting.form.hex inputs cuts → IsDecoding job.setting.form inputs (decoding run.segments cuts)
given_is job interest inputs picks run cuts are = record { segments = run.decoded; cuts = are }

-- what was picked of all inputs was picked of their segments
picked_run : (job : Job) (inputs : List (List ℕ)) (interest : Interest) (picks : Picks)
    → ArePicksOfAll job.setting.form interest inputs picks → IsPickedRun job interest inputs picks
picked_run job inputs interest picks all = record {
  segments = all.segments;
  decoded = all.decoded;
  picked = record { picks_of = all.picks_of; fits = decoded_fit job.setting.form inputs all.segments all.decoded };
}

-- the case that is made of picks is one of what was picked
pub picked_for : (interest : Interest) (picks : Picks) (segments : List Content) (case : Picked)
    → ((interest : Interest) (all : List Content) → ArePicksOf interest picks all → All Fits all
    → (T : Trace) × IsCaseOf all T × IsPickedOf interest T case)
    → ArePickedFor interest picks segments → IsPickedFor interest case segments
picked_for interest picks segments case made are =
    let of = made interest segments are.picks_of are.fits in
    record { trace = of.0; case_of = of.1; picked = of.2 }

-- The lines of the answer over the case of these segments were written, or a first part of them.
pub record PrintsOf (given : Decoding) (symbols : Option (List ℕ)) (job : Job) (Written : List ℕ → Type 0) : Type 0 where
  pub lines : List ℕ
  pub are : AreAnswerLines given symbols job lines
  pub written : Written lines

-- what is printed of decoded segments is printed of their inputs
prints : (job : Job) (inputs : List (List ℕ)) (given : Decoding) (symbols old new : Option (List ℕ)) → WorkersFit job.setting.workers
    → IsDecoding job.setting.form inputs given → PrintsOf given symbols job (Appends old new) → Prints job inputs symbols old new
prints job inputs given symbols old new fit decoded of = (of.lines, (fit, given, decoded, of.are), of.written)

-- a first part of what is printed of decoded segments is one of what is printed of their inputs
prints_part : (job : Job) (inputs : List (List ℕ)) (given : Decoding) (symbols old new : Option (List ℕ)) → WorkersFit job.setting.workers
    → IsDecoding job.setting.form inputs given → PrintsOf given symbols job (AppendsPrefix old new) → PrintsPart job inputs symbols old new
prints_part job inputs given symbols old new fit decoded of = (of.lines, (fit, given, decoded, of.are), of.written)

-- what is reported of what was decoded is reported of the inputs
reports : (job : Job) (inputs : List (List ℕ)) (given : Decoding) (symbols : Option (List ℕ)) (completed : Completed)
    → IsDecoding job.setting.form inputs given → ReportsOf given.segments symbols job given.cuts completed → Reports job inputs symbols completed
reports job inputs given symbols completed decoded of = record {
  coverage = (given.segments, decoded.segments, of.coverage);
  cut = of.cut_are job.setting.form.hex inputs decoded.cuts;
  absence = (given.segments, decoded.segments, of.absence);
  remarks = (given.segments, decoded.segments, of.remarks);
}

-- ---- how the run ends

-- a run of picks ends for a cause of the run over the sources
ends_for : (job : Job) (inputs : List (List ℕ)) (lefts : List (Option (List ℕ))) (ends : List Bool) (symbols : Option (List ℕ))
    (given : Decoding) (Written : List ℕ → Type 0) (fault : RunFault) → WorkersFit job.setting.workers
    → IsDecoding job.setting.form inputs given → EndsPrinting fault → (fault ≢ Write → IsCauseAfter given symbols job fault)
    → (fault ≡ Write → PrintsOf given symbols job Written) → IsSourcesCause job inputs lefts ends symbols fault
ends_for job inputs lefts ends symbols given W Write fit decoded after cause write =
    let of = write refl in (of.lines, (fit, given, decoded, of.are))
ends_for job inputs lefts ends symbols given W (Incomplete processor number) fit decoded after cause write =
    sources_cause_of job inputs lefts ends symbols given (Incomplete processor number) fit decoded (cause (λ e. cc e))
ends_for job inputs lefts ends symbols given W (UnknownCut input) fit decoded after cause write =
    sources_cause_of job inputs lefts ends symbols given (UnknownCut input) fit decoded (cause (λ e. cc e))
ends_for job inputs lefts ends symbols given W (Symbols fault) fit decoded after cause write =
    sources_cause_of job inputs lefts ends symbols given (Symbols fault) fit decoded (cause (λ e. cc e))
ends_for job inputs lefts ends symbols given W NoSubject fit decoded after cause write =
    sources_cause_of job inputs lefts ends symbols given NoSubject fit decoded (cause (λ e. cc e))
ends_for job inputs lefts ends symbols given W Memory fit decoded after cause write =
    sources_cause_of job inputs lefts ends symbols given Memory fit decoded (cause (λ e. cc e))
ends_for job inputs lefts ends symbols given W other fit decoded after cause write = absurd after

-- The answer over the case of what was decoded was printed, and what is reported beside it holds; or its picks lack something to tell it;
-- or there is a reason why not.
abbrev pub EndsOfPicks : Interest → Decoding → Option (List ℕ) → Job → Option (List ℕ) → Option (List ℕ)
    → Result Completed Unpicked → Type 0
EndsOfPicks interest given symbols job old new (Ok completed) =
    PrintsOf given symbols job (Appends old new) × ReportsOf given.segments symbols job given.cuts completed
EndsOfPicks interest given symbols job old new (Err (unpicked.Lacking lack)) = IsLackOf interest given.segments job lack
EndsOfPicks interest given symbols job old new (Err (unpicked.Refused fault)) =
    EndsPrinting fault × (fault ≢ Write → IsCauseAfter given symbols job fault)
    × (fault ≡ Write → PrintsOf given symbols job (AppendsPrefix old new))

-- what comes of the picks of inputs is how the run over the sources ends
ends_picking : (job : Job) (interest : Interest) (inputs : List (List ℕ)) (lefts : List (Option (List ℕ))) (ends : List Bool)
    (symbols old new : Option (List ℕ)) (given : Decoding) (result : Result Completed Unpicked)
    → WorkersFit job.setting.workers → IsDecoding job.setting.form inputs given → EndsOfPicks interest given symbols job old new result
    → EndsPicking (IsSourcesCause job inputs lefts ends symbols) interest job inputs symbols old new result
ends_picking job interest inputs lefts ends symbols old new given (Ok completed) fit decoded of =
    (prints job inputs given symbols old new fit decoded of.0, reports job inputs given symbols completed decoded of.1)
ends_picking job interest inputs lefts ends symbols old new given (Err (unpicked.Lacking lack)) fit decoded lacks =
    (given.segments, decoded.segments, lacks)
ends_picking job interest inputs lefts ends symbols old new given (Err (unpicked.Refused fault)) fit decoded of = (
  ends_for job inputs lefts ends symbols given (AppendsPrefix old new) fault fit decoded of.0 of.1 of.2,
  λ told. prints_part job inputs given symbols old new fit decoded (of.2 told),
)

-- why no answer is made is no failed write
pub answer_no_write : (fault : RunFault) → EndsAnswer fault → fault ≢ Write
answer_no_write Write ends is = ends
answer_no_write fault ends is = cc is

pub ends_printing : (fault : RunFault) → EndsAnswer fault → EndsPrinting fault
ends_printing Write ends = tt
ends_printing fault ends = ends

-- a run that ends while it prints ends for no fault of a case
ends_without_case : {S : Type 0} (result : Result S RunFault) → IfErr result EndsPrinting → NeverCase result
ends_without_case (Ok ended) after = tt
ends_without_case (Err (Case fault)) after = absurd after
ends_without_case (Err other) after = λ broken is. cc is

-- how a run ends that has picked what it was asked about, and what it leaves in the sink
pub record EndsAfter (interest : Interest) (all : AllPicks) (symbols : Option (List ℕ)) (job : Job) (before after : SinkState)
    (result : Result Completed Unpicked) : Type 0 where
  pub outcome : (segments : List Content) → ArePickedFor interest all.picks segments
      → EndsOfPicks interest (decoding segments all.cuts.items) symbols job before.contents after.contents result
  pub sink : LeavesSink before after (by_refusal result)
  pub unwritten : (lack : Lacking) → result ≡ Err (unpicked.Lacking lack) → after ≡ before
  pub ends : IfErr (by_refusal result) EndsPrinting

-- which is a run of picks over the sources
pub is_picked : (job : Job) (interest : Interest) (all : AllPicks) (symbols : Option (List ℕ)) (old new : List SourceState)
    (before after : SinkState) (result : Result Completed Unpicked) → WorkersFit job.setting.workers
    → ReadsAll false job.setting.workers old new (AreAllPicked job.setting.form interest) (StopsIn job.setting.form new) (Ok all)
    → EndsAfter interest all symbols job before after result
    → IsPicked interest job symbols old new before after result
is_picked job interest all symbols old new before after result fit reads is = record {
  outcome = λ texts known.
      let picked = reads.outcome texts known in
      let run = picked_run job texts interest all.picks picked.picks in
      ends_picking job interest texts (lefts new) (ends new) symbols before.contents after.contents (decoding run.segments all.cuts.items) result
      fit (given_is job interest texts all.picks run all.cuts.items picked.cuts) (is.outcome run.segments run.picked);
  reading = read_late false old new all (by_refusal result) reads.reading (IfErr-weaker (by_refusal result) _ _ printing_late is.ends);
  readers = reads.readers;
  sink = is.sink;
  unwritten = is.unwritten;
  no_case = ends_without_case (by_refusal result) is.ends;
}
