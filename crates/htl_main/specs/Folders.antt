-- For the clauses of private functions: how an analyst takes one segment after another, and what it keeps of them.
use Rattle.std.specs.Prelude.{◌≡◌, ◌≢◌, ◌≤◌, ◌<◌, ◌-◌, ◌⊎◌, ◌++◌, ◌∷◌, [], ⊤, ℕ, Bool, true, List, Contains, Option, None, Some, IfErr}
use Rattle.std.specs.Prelude.{IfOk, OnErr, OnOk, Result}
use Rattle.std.specs.List.Sorted.{IsNonDecreasingBy}
use Rattle.htl_analyst.specs.Keys.{HasTaken, number_taken}
use Rattle.htl_analyst.specs.Refusals.{TakeAccepted}
use Rattle.htl_analyst.specs.States.{State, folded_at, held_at}
use Rattle.htl_analyst.specs.TakenAll.{HasTakenAll}
use Rattle.htl_case.specs.declared.fault.CaseFault.{CaseFault}
use Rattle.htl_case.specs.declared.fault.CaseFault.TheVariants.{Empty}
use Rattle.htl_event.specs.Events.{Event}
use Rattle.htl_event.specs.Members.{IsLeastSuch}
use Rattle.htl_device.specs.States.{SourceState, lefts}
use Rattle.htl_segment.specs.Content.{Content, Fits}
use Rattle.htl_segment.specs.Keepers.{Took}
use Rattle.htl_segment.specs.Traces.{Trace}
use Rattle.htl_inputs.specs.CutInputs.{AreCut, AreCutEnds}
use Rattle.htl_inputs.specs.Inputs.{DecodeAll}
use Rattle.htl_inputs.specs.Reads.{StopsIn}
use Rattle.htl_inputs.specs.declared.cuts.CutEnd.{CutEnd}
use Rattle.htl_inputs.specs.declared.fault.RunFault.{RunFault}
use Rattle.htl_inputs.specs.declared.fault.RunFault.TheVariants.{Segment, Hex, Read, Case, Memory, Symbols}
use Rattle.htl_main.specs.Completeness.{IsComplete, ReportsMissing}
use Rattle.htl_main.specs.Coverages.{IsCoverage}
use Rattle.htl_main.specs.Printed.{HasSymbolFault, WorkersFit}
use Rattle.htl_taken.specs.Numbers.{front_at}
use Rattle.htl_command.specs.declared.question.InputForm.{InputForm}
use Rattle.htl_main.specs.Picking.{NamesMissing}
use Rattle.htl_main.specs.Folding.{AreAccepted, AreFolded, AreGiven, AreTaken, Fall, GaveBefore, IsCollectionOf, IsOfPlace, IsUnfit}
use Rattle.htl_main.specs.Folding.{StandBefore, TakesUpTo, counted, AsksFoldsMemory, Folding, IsFoldingRefused}
use Rattle.htl_main.specs.declared.loading.adding.Added.{Added}
use Rattle.htl_main.specs.declared.folding.folder.Folder.{Folder}
use Rattle.htl_main.specs.declared.refused.Refused.{Refused}
use Rattle.htl_main.specs.declared.folding.taking.Taken.{Taken}

-- No front falls and no key is lost from the one state to the other.
pub record Keeps (old new : State) : Type 0 where
  pub fronts : (p : ℕ) → front_at old.taken p ≤ front_at new.taken p
  pub number : number_taken old ≤ number_taken new

abbrev pub KeepsAll : Option State → Option State → Type 0
KeepsAll None new = ⊤
KeepsAll (Some old) None = ⊥
KeepsAll (Some old) (Some new) = Keeps old new

-- Of the segments that were given, the analyst took all, or those before the first that is unfit, after what it took first.
pub record Folds (first now : Option State) (unfit : Option CaseFault) (segments : ℕ) (given : List Content) : Type 0 where
  pub taken : List Content
  pub takes : (before : List Content) → AreFolded first before → TakesUpTo before given taken unfit
  pub kept : (before : List Content) → AreFolded first before → AreTaken (before ++ taken) now
  pub number : segments ≡ counted taken
  pub keeps : KeepsAll first now
  pub same : segments ≡ 0 → now ≡ first

-- what the folder's analyst took of the segments that were given, after what it took first
abbrev pub folds_of : Folder → Folder → List Content → Type 0
folds_of first now given = Folds first.analyst now.analyst now.unfit now.segments given

-- the folder goes on with this analyst, and took nothing yet
pub record IsBegun (analyst : Option State) (folder : Folder) : Type 0 where
  pub none : Folds analyst folder.analyst folder.unfit folder.segments []
  pub same : folder.analyst ≡ analyst

-- the segment is of the analyst's trace, and new
pub record IsNewTo (a : State) (s : Content) : Type 0 where
  pub trace_id : s.trace_id ≡ a.trace_id
  pub processors : s.processors ≡ a.processors
  pub new : HasTaken a s.processor s.number → ⊥

-- Held segments of a processor, in the order of their numbers. None of them falls.
pub record AreHeld (p : ℕ) (held : List Content) : Type 0 where
  pub own : (h : Content) → Contains held h → Fits h × (h.processor ≡ p)
  pub order : IsNonDecreasingBy (λ h. h.number) held
  pub one : (h k : Content) → Contains held h → Contains held k → h.number ≡ k.number → h ≡ k
  pub rising : (h k : Content) → Contains held h → Contains held k → Fall h k → ⊥

-- the held segments below a number, and the others
pub record IsSplitAt (p n : ℕ) (held lower higher : List Content) : Type 0 where
  pub parts : lower ++ higher ≡ held
  pub below : (h : Content) → Contains lower h → h.number < n
  pub above : (h : Content) → Contains higher h → n ≤ h.number
  pub lower_are : AreHeld p lower
  pub higher_are : AreHeld p higher

-- of the segments that have an event the one at the end to which this order of numbers leads
pub record IsNearest (Before : ℕ → ℕ → Type 0) (segments : List Content) (s : Content) : Type 0 where
  pub here : Contains segments s
  pub some : s.events ≢ []
  pub nearest : (t : Content) → Contains segments t → t.events ≢ [] → Before s.number t.number

-- an event of one of the segments
abbrev pub IsEventOf : List Content → Event → Type 0
IsEventOf segments e = (s : Content) × Contains segments s × Contains s.events e

-- a segment of this number has an event at or below the sequence
abbrev pub HasWithin : List Content → ℕ → ℕ → Type 0
HasWithin segments sequence n =
    (s : Content) × Contains segments s × (s.number ≡ n) × (e : Event) × Contains s.events e × (e.sequence ≤ sequence)

-- A segment of this number falls once a new one is taken: the new one, which isn't above the floor or a held one, or a held one above it.
abbrev pub FallsAmong : List Content → ℕ → Content → ℕ → Type 0
FallsAmong held floor s n =
    ((n ≡ s.number) × (e : Event) × Contains s.events e × (e.sequence ≤ floor))
    ⊎ ((h : Content) × Contains held h × ((Fall h s × (n ≡ s.number)) ⊎ (Fall s h × (n ≡ h.number))))

-- the least number of which this is true, or there is none
abbrev pub IsLeastIfAny : (ℕ → Type 0) → Option ℕ → Type 0
IsLeastIfAny P None = (n : ℕ) → P n → ⊥
IsLeastIfAny P (Some n) = IsLeastSuch ◌<◌ P n

-- the same beside what the analyst holds and has folded of the processor
abbrev pub FallsIn : State → Content → ℕ → Type 0
FallsIn a s n = FallsAmong (held_at a.parts s.processor) (folded_at a.parts s.processor).last_sequence s n

-- The segment is new, and once it is taken this is the least number that falls; or that isn't so.
abbrev pub IsFirstToFall : State → Content → Option ℕ → Type 0
IsFirstToFall a s None = IsNewTo a s → (n : ℕ) → FallsIn a s n → ⊥
IsFirstToFall a s (Some n) = IsNewTo a s × IsLeastSuch ◌<◌ (FallsIn a s) n

-- A segment was taken after these, since it is fit for what the analyst holds and has folded; or it is unfit.
pub record TookNext (segments : List Content) (s : Content) (old new : State) : Type 0 where
  pub accepted : TakeAccepted old s
  pub rising : IsFirstToFall old s None
  pub kept : HasTakenAll (segments ++ s ∷ []) new

abbrev pub TookFit : List Content → Content → ℕ → State → State → Option CaseFault → Type 0
TookFit segments s place old new None = TookNext segments s old new
TookFit segments s place old new (Some fault) = IsUnfit segments s fault × IsOfPlace fault place

-- The folder took all segments of the inputs, of which these are cut.
pub record TookInputs (old new : Folder) (form : InputForm) (inputs : List (List ℕ)) (cuts : List CutEnd) : Type 0 where
  pub given : List Content
  pub decoded : DecodeAll form inputs given
  pub took : Took folds_of old new given
  pub cut_ends : AreCutEnds form.hex inputs cuts

-- The reading stops at an input, whose source is as it is after it, and the folder took what came before.
pub record TookToFault (old new : Folder) (form : InputForm) (after : List SourceState) (inputs : List (List ℕ)) (fault : RunFault)
    : Type 0 where
  pub stops : StopsIn form after inputs fault
  pub kept : fault ≢ Memory → (given : List Content) × AreGiven form inputs (lefts after) fault given × Took folds_of old new given

-- how many segments were taken, each key once
abbrev pub number_of : Option State → ℕ
number_of None = 0
number_of (Some a) = number_taken a

-- ---- of inputs

-- the segments that a source at a place gave before its fault
abbrev pub GaveOwn : InputForm → Option (List ℕ) → List ℕ → RunFault → List Content → Type 0
GaveOwn form left text (Segment at offset fault) own = StandBefore form offset text own
GaveOwn form left text (Hex at fault) own = own ≡ []
GaveOwn form left text (Read at) own = GaveBefore form.hex left text own
GaveOwn form left text fault own = ⊥

-- a fault of an input, or refused memory
abbrev pub IsOfInput : RunFault → Type 0
IsOfInput (Segment at offset fault) = ⊤
IsOfInput (Hex at fault) = ⊤
IsOfInput (Read at) = ⊤
IsOfInput Memory = ⊤
IsOfInput fault = ⊥

-- a complete trace was asked for, and this fault says why one that the analyst took isn't complete; or memory was refused
abbrev pub IsMissingOf : Bool → List CutEnd → State → RunFault → Type 0
IsMissingOf complete cuts a fault =
    (fault ≡ Memory) ⊎ (NamesMissing fault × (complete ≡ true) × ((segments : List Content) (T : Trace) → AreFolded (Some a) segments
    → IsCollectionOf segments T → ReportsMissing T cuts fault))

-- So many segments were added, where `before` keys had been taken: `added` says how many they are, how many are new, how much of its
-- trace the analyst has, and which inputs are cut.
pub record IsAddedToFolded (complete : Bool) (now : Option State) (before segments : ℕ) (cuts : List CutEnd) (added : Added)
    : Type 0 where
  pub analyst : State
  pub there : now ≡ Some analyst
  pub segments_are : added.segments ≡ segments
  pub new_are : added.new ≡ number_of now - before
  pub covered : (all : List Content) (T : Trace) → AreFolded (Some analyst) all → IsCollectionOf all T
      → IsCoverage T added.coverage × (complete ≡ true → IsComplete T cuts)
  pub cut_is : (hex : Bool) (inputs : List (List ℕ)) → AreCutEnds hex inputs cuts → AreCut hex inputs added.cut

-- why a reading ends after it took all segments: there is none, or one is missing, or memory was refused
abbrev pub IsNotAdded : Bool → List CutEnd → Option State → RunFault → Type 0
IsNotAdded complete cuts None fault = fault ≡ Case Empty
IsNotAdded complete cuts (Some a) fault = IsMissingOf complete cuts a fault

-- the first fault of the symbols, or refused memory
abbrev pub IsSymbolsFault : Option (List ℕ) → RunFault → Type 0
IsSymbolsFault symbols Memory = ⊤
IsSymbolsFault symbols (Symbols fault) = HasSymbolFault symbols fault
IsSymbolsFault symbols fault = ⊥

-- All segments of the inputs were taken after those from before, and the analyst has folded all of both that it can.
pub record AreAllTaken (form : InputForm) (before : List Content) (inputs : List (List ℕ)) (old new : Option State) (segments : ℕ)
    (cuts : List CutEnd) : Type 0 where
  pub given : List Content
  pub decoded : DecodeAll form inputs given
  pub accepted : AreAccepted before given
  pub folded : AreFolded new (before ++ given)
  pub number : segments ≡ counted given
  pub cut_ends : AreCutEnds form.hex inputs cuts
  pub keeps : KeepsAll old new

-- What a reading that folds comes to. `read` says what it took or why it ended, and `far` whether memory was refused for the fold after it.
pub record TakesAll {S E : Type 0} (of : Folding) (old new : Option State) (read : Result Taken Refused) (far : Result S E) : Type 0 where
  pub ok : IfOk read (λ taken. OnOk far (AreAllTaken of.setting.form of.before of.inputs old new taken.segments taken.cuts.items))
  pub err : WorkersFit of.setting.workers
      → IfErr read (λ refused. IsFoldingRefused of (λ taken. OnOk far (AreFolded new taken)) refused.fault)
  pub memory : WorkersFit of.setting.workers → OnErr far (AsksFoldsMemory of)
