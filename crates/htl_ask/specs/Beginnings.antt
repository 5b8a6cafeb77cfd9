-- How a dialogue begins (this project's own): saved states are merged in their order, and then inputs are read, whose segments are kept, or
-- folded behind those of the states. What was read before the first line is known where it is known of which segments each state is.
use Rattle.std.specs.Prelude.{◌≡◌, ◌⊎◌, ◌++◌, ◌∷◌, ◌==◌, ◌||◌, [], ⊤, ℕ, Bool, true, false, List, All, Option, None, Some, Result, Err}
use Rattle.std.specs.Prelude.{IfSome, length, map, not, option_map, slice_get, string_bytes, take}
use Rattle.htl_case.specs.declared.fault.CaseFault.TheVariants.{OtherProcessors, OtherTrace}
use Rattle.htl_command.specs.declared.command.Dialogue.{Dialogue}
use Rattle.htl_command.specs.declared.question.Job.{Job}
use Rattle.htl_command.specs.declared.question.Setting.{Setting}
use Rattle.htl_device.specs.States.{SourceState, ends, fresh, lefts}
use Rattle.htl_dialogue.specs.Dialogues.{Gets}
use Rattle.htl_dialogue.specs.Notes.{OwnNote}
use Rattle.htl_dialogue.specs.declared.note.Note.TheVariants as hear
use Rattle.htl_dialogue.specs.declared.note.Opening.{Opening}
use Rattle.htl_inputs.specs.CutInputs.{AreCut}
use Rattle.htl_inputs.specs.Readings.{AreRead}
use Rattle.htl_inputs.specs.declared.fault.RunFault.{RunFault}
use Rattle.htl_inputs.specs.declared.fault.RunFault.TheVariants.{Case, Memory, State, StateRead, Unbounded}
use Rattle.htl_main.specs.Causes.{IsSourcesCause}
use Rattle.htl_main.specs.Coverages.{IsCoverage}
use Rattle.htl_main.specs.Folding.{IsBeginningRefused, IsFolded, IsHalfKnown}
use Rattle.htl_main.specs.Loading.{AreLoadedOf, in_setting}
use Rattle.htl_main.specs.Origins.{IsBetween}
use Rattle.htl_main.specs.Printed.{HasSymbols}
use Rattle.htl_main.specs.SavedStates.{EndsMerging, HaveOtherCounts, HaveOtherIds}
use Rattle.htl_main.specs.declared.loading.adding.Added.{Added}
use Rattle.htl_main.specs.declared.origin.Between.{Between}
use Rattle.htl_segment.specs.Content.{Content}
use Rattle.htl_segment.specs.Traces.{Trace}
use Rattle.htl_symbols.specs.Ranges.{Range}
use Rattle.htl_world.specs.Readings.{AreUnread, ReportsRead}
use Rattle.htl_world.specs.Worlds.{Known, of_each}
use Rattle.htl_ask.specs.Asking.{IsMergesFault, IsSavedState, KnownStates, Taken, if_of_one, inputs, segments}

-- whether what is read is folded and forgotten: where that is asked for, and where there is a state
abbrev pub forgets : Dialogue → Bool
forgets of = of.folds || not (length of.states.items == 0)

-- ---- saved states

-- the segments by then, once the state of one name more was merged
abbrev pub told_with : {holds : List ℕ → Option (List ℕ)} → KnownStates holds → Option (List Content) → List ℕ → Option (List Content)
told_with states None name = None
told_with states (Some before) name = option_map (λ told. before ++ told) (if_of_one (states.are_of_one before) (states.tells name))

-- The segments by then, once the states of these names were merged one after the other, as far as it is known of which segments each is,
-- and that they are of one trace with those before.
abbrev pub told_by : {holds : List ℕ → Option (List ℕ)} → KnownStates holds → Option (List Content) → List (List ℕ) → Option (List Content)
told_by states before [] = before
told_by states before (name ∷ more) = told_by states (told_with states before name) more

-- what the states of these names tell, where nothing was read before them
abbrev pub told_first : {holds : List ℕ → Option (List ℕ)} → KnownStates holds → List (List ℕ) → Option (List Content)
told_first states names = told_by states (Some []) names

-- A state that was merged behind segments is of their trace and of their number of processors, as far as both lists are known.
abbrev pub FitsBehind : {holds : List ℕ → Option (List ℕ)} → KnownStates holds → Option (List Content) → List ℕ → Type 0
FitsBehind states None name = ⊤
FitsBehind states (Some before) name = IfSome (states.tells name) (λ told.
    (HaveOtherIds before told → before ≡ []) × (HaveOtherCounts before told → before ≡ []))

-- the same of states that were merged one after the other
abbrev pub AllFit : {holds : List ℕ → Option (List ℕ)} → KnownStates holds → Option (List Content) → List (List ℕ) → Type 0
AllFit states before [] = ⊤
AllFit states before (name ∷ more) = FitsBehind states before name × AllFit states (told_with states before name) more

-- a fault of a state that says place 0, as one of the state at this place
abbrev pub placed : ℕ → RunFault → RunFault
placed place (State state offset fault) = State place offset fault
placed place (Unbounded state processor) = Unbounded place processor
placed place (StateRead state) = StateRead place
placed place (Case (OtherTrace segment)) = Case (OtherTrace place)
placed place (Case (OtherProcessors segment)) = Case (OtherProcessors place)
placed place fault = fault

-- Why the state of a name isn't merged behind some segments: where these are known, and those of the state, it is as a merge of them ends.
-- A gap isn't looked for.
abbrev pub IsUnmergedBehind : {holds : List ℕ → Option (List ℕ)} → KnownStates holds → Option (List Content) → List ℕ → RunFault → Type 0
IsUnmergedBehind states None name fault = ⊤
IsUnmergedBehind states (Some before) name fault =
    IfSome (if_of_one (states.are_of_one before) (states.tells name)) (λ told. EndsMerging false before told (λ all. ⊤) ⊤ (Err fault))

-- The state of the name at a place is refused, once those before it were merged. Its fault says this place in place of 0, and is else that
-- of a line which merges the state.
pub record RefusesState (world : Known) (states : KnownStates world.holds) (names : List (List ℕ)) (refused : RunFault) : Type 0 where
  pub place : ℕ
  pub name : List ℕ
  pub here : slice_get names place ≡ Some name
  pub before : All (IsSavedState world) (take place names)
  pub fit : AllFit states (Some []) (take place names)
  pub fault : RunFault
  pub is : refused ≡ placed place fault
  pub why : IsMergesFault (world.holds name) fault
  pub unmerged : IsUnmergedBehind states (told_first states (take place names)) name fault

-- Reading ended at a state: it was refused, or memory was.
abbrev pub EndsAtState : (world : Known) → KnownStates world.holds → List (List ℕ) → RunFault → Type 0
EndsAtState world states names fault = RefusesState world states names fault ⊎ (fault ≡ Memory)

-- ---- inputs

-- All segments of the inputs were loaded, with the names of the table, as a run does before its answer; and what is told holds of them.
pub record OpensLoaded (setting : Setting) (symbols : Option (List ℕ)) (texts : List (List ℕ)) (opening : Opening) : Type 0 where
  pub case : Trace
  pub names : List Range
  pub loaded : AreLoadedOf texts symbols setting None case names
  pub coverage : IsCoverage case opening.coverage
  pub cut : AreCut setting.form.hex texts opening.cut

-- All segments of the inputs were taken and folded behind those from before, and the table has no fault. It is told how much of their
-- trace the segments have that are a case.
pub record OpensFolded (setting : Setting) (before : List Content) (symbols : Option (List ℕ)) (texts : List (List ℕ))
    (taken : List Content) (opening : Opening) : Type 0 where
  pub added : Added
  pub folded : IsFolded setting before texts (λ all. all ≡ taken) added
  pub names : List Range
  pub named : HasSymbols symbols names
  pub coverage : opening.coverage ≡ added.coverage
  pub cut : opening.cut ≡ added.cut

-- What was read before the first line, of states that tell this, of inputs of these texts and of a table of symbols. So no dialogue begins
-- over a table that has a fault, or over a gap where a complete trace is asked for. Where it isn't known what the states tell, it isn't
-- known what was read.
abbrev pub Begins : Bool → Setting → Option (List Content) → Option (List ℕ) → List (List ℕ) → Option Taken → Opening → Type 0
Begins false setting told symbols texts (Some (inputs read)) opening = (read ≡ texts) × OpensLoaded setting symbols texts opening
Begins true setting (Some before) symbols texts (Some (segments taken)) opening = OpensFolded setting before symbols texts taken opening
Begins true setting None symbols texts None opening = (names : List Range) × HasSymbols symbols names
Begins folds setting told symbols texts read opening = ⊥

-- A sink got these replies, and the speaker these notes, after they were told this of the files of these names.
abbrev pub BeginsAndGets : {Speaker : Type 0} → List (List ℕ) → Option (List ℕ) → Option (List ℕ) → (Speaker → OwnNote → Speaker)
    → Speaker → Speaker → Opening → List ℕ → List OwnNote → Type 0
BeginsAndGets names old new told speaker after opening replies notes =
    Gets old new told speaker after replies (hear.Begins names opening ∷ notes)

-- why a run of its own over sources of these bytes would end, whatever it is asked of all events
abbrev pub IsRunsCause : Setting → Option (List ℕ) → List (List ℕ) → List SourceState → RunFault → Type 0
IsRunsCause setting symbols texts sources fault =
    (job : Job) → job.until ≡ None → IsSourcesCause (in_setting setting job) texts (lefts sources) (ends sources) symbols fault

-- Why nothing can be asked of inputs, in each form: that of inputs behind what the states tell, where this is known.
abbrev pub IsBeginsCause : Bool → Setting → Option (List Content) → Option (List ℕ) → List (List ℕ) → List SourceState → RunFault → Type 0
IsBeginsCause false setting told symbols texts sources fault = IsRunsCause setting symbols texts sources fault
IsBeginsCause true setting None symbols texts sources fault = ⊤
IsBeginsCause true setting (Some before) symbols texts sources fault = IsBeginningRefused setting symbols before texts sources fault

-- which two segments that is about
abbrev pub IsBeginsBetween : Bool → Setting → List (List ℕ) → RunFault → Between → Type 0
IsBeginsBetween false setting texts fault between = IsBetween setting.form texts fault between
IsBeginsBetween true setting texts fault between = IsHalfKnown fault between

-- ---- the order

-- The states were read, each of which is one that fits, and then the inputs, as any run reads its sources; or this ended at a state, and no
-- input was read.
abbrev pub ReadsBehind : {S : Type 0} → (world : Known) → KnownStates world.holds → Bool → List (List ℕ) → List SourceState
    → List SourceState → Result S RunFault → Type 0
ReadsBehind world states is_text names old new result =
    (All (IsSavedState world) names × AllFit states (Some []) names × AreRead is_text old new result)
    ⊎ ((fault : RunFault) × (result ≡ Err fault) × (new ≡ old) × EndsAtState world states names fault)

-- The files and the table were opened, and then states and inputs were read; or not all was opened, and none of them was read. A failed
-- read is reported only of a file that was refused, or of one whose read failed or that has no end.
pub record ReadsAll {S : Type 0} (world : Known) (states : KnownStates world.holds) (of : Dialogue) (sources : List SourceState)
    (result : Result S RunFault) : Type 0 where
  pub reading :
      ReadsBehind world states of.setting.form.hex (map string_bytes of.states.items) (map fresh (of_each world.holds of.files.items))
      sources result
      ⊎ ((fault : RunFault) × (result ≡ Err fault) × AreUnread (of_each world.holds of.files.items) (of_each world.holds of.files.items)
      (of_each world.is_absent of.files.items) sources fault)
  pub read : ReportsRead world (of_each world.holds of.files.items) of.files.items sources result
