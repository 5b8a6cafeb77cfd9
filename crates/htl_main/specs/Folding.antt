-- A reading that forgets (this project's own): segments are folded as they come, and no event is kept. What is kept stands for the list of
-- the segments that were taken, in the order in which they came. Of each key the first of them counts: what comes later of a key that was
-- folded is taken for a repeat, since its content is forgotten.
use Rattle.std.specs.Prelude.{◌≡◌, ◌≢◌, ◌<◌, ◌≤◌, ◌+◌, ◌-◌, ◌^◌, ◌⊎◌, ◌↔◌, ◌++◌, ◌∷◌, [], ⊤, ℕ, Bool, true, false, List}
use Rattle.std.specs.Prelude.{Contains}
use Rattle.std.specs.Prelude.{length, min, slice_get, take, Option, None, Some, Result, Err}
use Rattle.std.specs.List.{AllByRecursion}
use Rattle.std.specs.Io.KnownBytes.{Consumes}
use Rattle.htl_device.specs.States.{SourceState, ends, lefts}
use Rattle.htl_analyst.specs.Right.{IsCollection}
use Rattle.htl_analyst.specs.States.{State}
use Rattle.htl_analyst.specs.Keys.{HasTaken}
use Rattle.htl_analyst.specs.TakenAll.{HasKeyOf, HasTakenAll, IsFirstOf}
use Rattle.htl_case.specs.Cases.{IsCase}
use Rattle.htl_case.specs.Faults.{key_of}
use Rattle.htl_case.specs.declared.fault.CaseFault.{CaseFault}
use Rattle.htl_case.specs.declared.fault.CaseFault.TheVariants as cases
use Rattle.htl_command.specs.declared.question.InputForm.{InputForm}
use Rattle.htl_question.specs.Questions.{is_of_counts}
use Rattle.htl_question.specs.declared.question.Question.{Question}
use Rattle.htl_command.specs.declared.question.Setting.{Setting}
use Rattle.htl_event.specs.Events.{Event}
use Rattle.htl_event.specs.Members.{IsLeastSuch}
use Rattle.htl_segment.specs.Bundles.{IsRest, Splits, bundle}
use Rattle.htl_segment.specs.Content.{Content}
use Rattle.htl_segment.specs.Traces.{Trace}
use Rattle.htl_taken.specs.Numbers.{front_at}
use Rattle.htl_inputs.specs.CutInputs.{AreCut, AreCutEnds}
use Rattle.htl_inputs.specs.declared.cuts.CutEnd.{CutEnd}
use Rattle.htl_inputs.specs.Inputs.{DecodeAll, HasBytes, StopsAtInput}
use Rattle.htl_inputs.specs.Readings.{AreRead}
use Rattle.htl_inputs.specs.Sources.{IsReportedAt}
use Rattle.htl_inputs.specs.declared.fault.RunFault.{RunFault}
use Rattle.htl_inputs.specs.declared.fault.RunFault.TheVariants as faults
use Rattle.htl_main.specs.Completeness.{IsComplete, ReportsMissing}
use Rattle.htl_main.specs.Coverages.{IsCoverage}
use Rattle.htl_main.specs.Origins.{is_about_two}
use Rattle.htl_main.specs.Printed.{HasSymbolFault, WorkersFit}
use Rattle.htl_main.specs.declared.loading.adding.Added.{Added}
use Rattle.htl_main.specs.declared.origin.Between.{Between}
use Rattle.htl_main.specs.declared.origin.Between.TheVariants.{Nothing, Unknown}

-- An analyst took exactly these segments. Before the first of them there is none.
abbrev pub AreTaken : List Content → Option State → Type 0
AreTaken segments None = segments ≡ []
AreTaken segments (Some analyst) = (segments ≢ []) × HasTakenAll segments analyst

-- The analyst holds no segment that it could fold: of each processor the front is the least number that wasn't taken.
abbrev pub IsFoldedFar : Option State → Type 0
IsFoldedFar None = ⊤
IsFoldedFar (Some analyst) = (processor : ℕ) → HasTaken analyst processor (front_at analyst.taken processor) → ⊥

-- Of two segments of a processor, the one with the higher number falls: it has an event that isn't above one of the lower.
pub record Fall (lower higher : Content) : Type 0 where
  pub processor : lower.processor ≡ higher.processor
  pub number : lower.number < higher.number
  pub event : Event
  pub earlier : Event
  pub has_event : Contains higher.events event
  pub has_earlier : Contains lower.events earlier
  pub falling : event.sequence ≤ earlier.sequence

-- Of the first segments of all keys none falls.
abbrev pub AreRising : List Content → Type 0
AreRising segments = (s t : Content) → IsFirstOf segments s → IsFirstOf segments t → Fall s t → ⊥

-- Folded: the analyst took exactly these segments, of which none falls, and folded all that it can.
pub record AreFolded (analyst : Option State) (segments : List Content) : Type 0 where
  pub taken : AreTaken segments analyst
  pub rising : AreRising segments
  pub far : IsFoldedFar analyst

-- ---- which segments are taken

-- The collection has just the first segment of each key.
pub record IsCollectionOf (segments : List Content) (T : Trace) : Type 0 where
  pub collection : IsCollection T
  pub members : (s : Content) → Contains T.segments s ↔ IsFirstOf segments s

-- The case has just the first segment of each key. (Where no key has two contents, it is the case of the segments.)
pub record IsCaseOfFirsts (segments : List Content) (T : Trace) : Type 0 where
  pub is_case : IsCase T
  pub members : (s : Content) → Contains T.segments s ↔ IsFirstOf segments s

-- The question is answered over the collection. If the answer depends on which event is the latest, the collection is a case: no two of its
-- events have one sequence.
pub record IsAskedOver (question : Question) (segments : List Content) (T : Trace) : Type 0 where
  pub some : segments ≢ []
  pub all : IsCollectionOf segments T
  pub case : is_of_counts question ≡ false → IsCase T

-- no segment of the processor is missing up to this one
abbrev pub IsUnbroken : List Content → Content → Type 0
IsUnbroken segments s = (n : ℕ) → n ≤ s.number → HasKeyOf segments s.processor n

-- they are of the segment's trace
abbrev pub AreOfTraceOf : List Content → Content → Type 0
AreOfTraceOf segments s = AllByRecursion (λ t. (t.trace_id ≡ s.trace_id) × (t.processors ≡ s.processors)) segments

-- A segment is accepted after others: it is of their trace; where its key came before and isn't in an unbroken run, its content is the one
-- from then; and where its key is new, neither it nor another one falls.
pub record Accepts (before earlier : List Content) (s : Content) : Type 0 where
  pub trace : AreOfTraceOf (before ++ earlier) s
  pub content : (t : Content) → IsFirstOf (before ++ earlier) t → key_of t ≡ key_of s → (IsUnbroken (before ++ earlier) t → ⊥)
      → t ≢ s → ⊥
  pub rises : (HasKeyOf (before ++ earlier) s.processor s.number → ⊥) → (t : Content) → IsFirstOf (before ++ earlier) t
      → (Fall t s → ⊥) × (Fall s t → ⊥)

-- Each of these segments is accepted after the earlier ones.
abbrev pub AreAcceptedAfter : List Content → List Content → List Content → Type 0
AreAcceptedAfter before earlier [] = ⊤
AreAcceptedAfter before earlier (s ∷ more) = Accepts before earlier s × AreAcceptedAfter before (earlier ++ s ∷ []) more

abbrev pub AreAccepted : List Content → List Content → Type 0
AreAccepted before segments = AreAcceptedAfter before [] segments

-- a count of 64 bits, which stays at the greatest one
abbrev pub counted : List Content → ℕ
counted segments = min (length segments) (2 ^ 64 - 1)

-- A segment of this number falls once a new one is taken: the new one, or one above it.
abbrev pub FallsAt : List Content → Content → ℕ → Type 0
FallsAt taken s n = (t : Content) × IsFirstOf taken t × ((Fall t s × (n ≡ s.number)) ⊎ (Fall s t × (n ≡ t.number)))

-- A segment of the trace is new, and once it is taken segments of its processor fall, the first of them at this number.
pub record MakesFall (taken : List Content) (s : Content) (p n : ℕ) : Type 0 where
  pub processor : p ≡ s.processor
  pub trace : AreOfTraceOf taken s
  pub new : HasKeyOf taken s.processor s.number → ⊥
  pub falls : IsLeastSuch ◌<◌ (FallsAt taken s) n

-- Why a segment isn't taken after others: its trace or its number of processors is another; or it is of their trace, and its key came with
-- another content, or its key is new and it or another one falls.
abbrev pub IsUnfit : List Content → Content → CaseFault → Type 0
IsUnfit taken s (cases.OtherTrace place) = (taken ≢ []) × AllByRecursion (λ t. t.trace_id ≢ s.trace_id) taken
IsUnfit taken s (cases.OtherProcessors place) =
    (taken ≢ []) × AllByRecursion (λ t. (t.trace_id ≡ s.trace_id) × (t.processors ≢ s.processors)) taken
IsUnfit taken s (cases.TwoContents processor number) =
    (key_of s ≡ (processor, number)) × AreOfTraceOf taken s × (t : Content) × IsFirstOf taken t × (key_of t ≡ key_of s) × (t ≢ s)
IsUnfit taken s (cases.Falling processor number) = MakesFall taken s processor number
IsUnfit taken s fault = ⊥

-- a fault that names the place of a segment names this one
abbrev pub IsOfPlace : CaseFault → ℕ → Type 0
IsOfPlace (cases.OtherTrace at) place = at ≡ place
IsOfPlace (cases.OtherProcessors at) place = at ≡ place
IsOfPlace fault place = ⊤

-- where the taking ends: behind the last segment, or before the first that is unfit
abbrev pub TakingEndsAt : List Content → List Content → List Content → Option CaseFault → Type 0
TakingEndsAt before taken later None = later ≡ []
TakingEndsAt before taken later (Some fault) =
    (s : Content) × (more : List Content) × (later ≡ s ∷ more) × IsUnfit (before ++ taken) s fault × IsOfPlace fault (counted taken)

-- Taken: of the segments that were given all, or those before the first that is unfit.
pub record TakesUpTo (before given taken : List Content) (unfit : Option CaseFault) : Type 0 where
  pub later : List Content
  pub cut : given ≡ taken ++ later
  pub accepted : AreAccepted before taken
  pub ends : TakingEndsAt before taken later unfit

-- ---- what a reading brings, and why it ends

-- A reading that folds: its setting, the segments that were taken before it, the texts of its inputs, and what is known of these after it.
pub record Folding : Type 0 where
  pub setting : Setting
  pub before : List Content
  pub inputs : List (List ℕ)
  pub after : List SourceState

abbrev pub folding : Setting → List Content → List (List ℕ) → List SourceState → Folding
folding setting before inputs after = record { setting = setting; before = before; inputs = inputs; after = after }

-- Read: all segments of the inputs were taken, and `Keeps` holds of all that were taken by then. `added` counts the segments of the inputs,
-- and those whose keys were not there.
pub record IsFolded (setting : Setting) (before : List Content) (inputs : List (List ℕ)) (Keeps : List Content → Type 0) (added : Added)
    : Type 0 where
  pub workers : WorkersFit setting.workers
  pub given : List Content
  pub decoded : DecodeAll setting.form inputs given
  pub accepted : AreAccepted before given
  pub kept : Keeps (before ++ given)
  pub some : before ++ given ≢ []
  pub segments : added.segments ≡ counted given
  pub new : (T U : Trace) → IsCollectionOf before T → IsCollectionOf (before ++ given) U → length U.segments ≡ length T.segments + added.new
  pub coverage : (T : Trace) → IsCollectionOf (before ++ given) T → IsCoverage T added.coverage
  pub cuts : List CutEnd
  pub cut_ends : AreCutEnds setting.form.hex inputs cuts
  pub whole : setting.complete ≡ true → (T : Trace) → IsCollectionOf (before ++ given) T → IsComplete T cuts
  pub cut : AreCut setting.form.hex inputs added.cut

-- The segments that a source gave, of whose bytes this is left. A text in hexadecimal gives none before its end.
abbrev pub GaveBefore : Bool → Option (List ℕ) → List ℕ → List Content → Type 0
GaveBefore true left text own = own ≡ []
GaveBefore false left text own = (read rest : List ℕ) × Consumes (Some text) left read × Splits read own rest × IsRest rest

-- the segments before an offset of an input
abbrev pub StandBefore : InputForm → ℕ → List ℕ → List Content → Type 0
StandBefore form offset text own =
    (bytes rest : List ℕ) × HasBytes form.hex text bytes × Splits bytes own rest × (offset ≡ length (bundle own))

-- The segments of the inputs before a place, and those of the input there of which `Own` is true.
abbrev pub ComeBefore : InputForm → List (List ℕ) → ℕ → (List ℕ → List Content → Type 0) → List Content → Type 0
ComeBefore form inputs place Own given =
    (earlier own : List Content) × (text : List ℕ) × DecodeAll form (take place inputs) earlier × (slice_get inputs place ≡ Some text)
    × Own text own × (given ≡ earlier ++ own)

-- The segments that inputs gave before a fault of one of them, or all where it is no such fault. `lefts` are left of the inputs.
abbrev pub AreGiven : InputForm → List (List ℕ) → List (Option (List ℕ)) → RunFault → List Content → Type 0
AreGiven form inputs lefts faults.Workers given = given ≡ []
AreGiven form inputs lefts (faults.Segment place offset fault) given = ComeBefore form inputs place (StandBefore form offset) given
AreGiven form inputs lefts (faults.Hex place fault) given = DecodeAll form (take place inputs) given
AreGiven form inputs lefts (faults.Read place) given =
    (left : Option (List ℕ)) × (slice_get lefts place ≡ Some left) × ComeBefore form inputs place (GaveBefore form.hex left) given
AreGiven form inputs lefts fault given = DecodeAll form inputs given

-- the reading stops at one of its inputs, of which this is reported
abbrev pub StopsFolding : Folding → RunFault → Type 0
StopsFolding of fault =
    StopsAtInput of.setting.form (IsReportedAt of.setting.form (lefts of.after) (ends of.after)) of.inputs fault

-- Memory is asked for to read; to fold segments that were given, before a fault too; and to say what was read.
abbrev pub AsksFoldsMemory : Folding → Type 0
AsksFoldsMemory of =
    WorkersFit of.setting.workers × (StopsFolding of faults.Memory
    ⊎ (((given : List Content) × (given ≢ []) × (fault : RunFault) × AreGiven of.setting.form of.inputs (lefts of.after) fault given)
    ⊎ ((given : List Content) × DecodeAll of.setting.form of.inputs given × (of.before ++ given ≢ []))))

-- A complete trace is asked for, and this fault says why the collection of all segments, with inputs that are cut, isn't complete.
abbrev pub IsMissingOfFirsts : Setting → List Content → List (List ℕ) → RunFault → Type 0
IsMissingOfFirsts setting all inputs fault =
    (setting.complete ≡ true) × (cuts : List CutEnd) × AreCutEnds setting.form.hex inputs cuts
    × ((T : Trace) → IsCollectionOf all T → ReportsMissing T cuts fault)

-- Why a reading ends, by what its inputs gave, and which segments of that were taken before an unfit one.
abbrev pub IsFoldsFault : Folding → List Content → Option CaseFault → RunFault → Type 0
IsFoldsFault of taken unfit faults.Workers = WorkersFit of.setting.workers → ⊥
IsFoldsFault of taken unfit (faults.Segment place offset fault) =
    WorkersFit of.setting.workers × StopsFolding of (faults.Segment place offset fault)
IsFoldsFault of taken unfit (faults.Hex place fault) = WorkersFit of.setting.workers × StopsFolding of (faults.Hex place fault)
IsFoldsFault of taken unfit (faults.Read place) = WorkersFit of.setting.workers × StopsFolding of (faults.Read place)
IsFoldsFault of taken unfit (faults.Case cases.Empty) = WorkersFit of.setting.workers × (of.before ++ taken ≡ [])
IsFoldsFault of taken unfit (faults.Case fault) = WorkersFit of.setting.workers × (unfit ≡ Some fault)
IsFoldsFault of taken unfit (faults.Incomplete processor number) =
    WorkersFit of.setting.workers × (unfit ≡ None)
    × IsMissingOfFirsts of.setting (of.before ++ taken) of.inputs (faults.Incomplete processor number)
IsFoldsFault of taken unfit (faults.UnknownCut input) =
    WorkersFit of.setting.workers × (unfit ≡ None) × IsMissingOfFirsts of.setting (of.before ++ taken) of.inputs (faults.UnknownCut input)
IsFoldsFault of taken unfit fault = ⊥

-- Refused: of the segments before the fault those before an unfit one were taken, and `Keeps` holds of all that were taken by then.
pub record IsFoldedUpTo (of : Folding) (Keeps : List Content → Type 0) (fault : RunFault) : Type 0 where
  pub given : List Content
  pub are_given : AreGiven of.setting.form of.inputs (lefts of.after) fault given
  pub taken : List Content
  pub unfit : Option CaseFault
  pub takes : TakesUpTo of.before given taken unfit
  pub kept : Keeps (of.before ++ taken)
  pub why : IsFoldsFault of taken unfit fault

-- After refused memory nothing is said of what was taken.
abbrev pub IsFoldingRefused : Folding → (List Content → Type 0) → RunFault → Type 0
IsFoldingRefused of Keeps faults.Memory = AsksFoldsMemory of
IsFoldingRefused of Keeps fault = IsFoldedUpTo of Keeps fault

-- Why a dialogue doesn't begin over inputs that come after the segments from before: a fault of the inputs, or else of the symbols.
abbrev pub IsBeginningRefused : Setting → Option (List ℕ) → List Content → List (List ℕ) → List SourceState → RunFault → Type 0
IsBeginningRefused setting symbols before inputs after (faults.Symbols fault) =
    HasSymbolFault symbols fault × (added : Added) × IsFolded setting before inputs (λ taken. ⊤) added
IsBeginningRefused setting symbols before inputs after fault = IsFoldingRefused (folding setting before inputs after) (λ taken. ⊤) fault

-- The sources are read as by a run that ends so. Where memory was refused to fold what came before a fault, they were read as by a run that
-- ends with that fault.
abbrev pub AreReadToFold : {S : Type 0} → Bool → List SourceState → List SourceState → Result S RunFault → Type 0
AreReadToFold {S} is_text old new result =
    AreRead is_text old new result ⊎ ((result ≡ Err faults.Memory) × (fault : RunFault) × AreRead {S = S} is_text old new (Err fault))

-- A fault about two segments names neither, since one of them may be forgotten (`Unknown`). Any other fault is about `Nothing`.
abbrev pub IsHalfKnown : RunFault → Between → Type 0
IsHalfKnown (faults.Case fault) Nothing = is_about_two fault ≡ false
IsHalfKnown (faults.Case fault) Unknown = is_about_two fault ≡ true
IsHalfKnown (faults.Case fault) between = ⊥
IsHalfKnown fault between = between ≡ Nothing
