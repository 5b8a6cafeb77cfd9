-- Saved states of what was folded, and what comes of merging one (this project's own).
use Rattle.std.specs.Prelude.{◌≡◌, ◌≢◌, ◌<◌, ◌+◌, ◌^◌, ◌⊎◌, ◌++◌, ⊤, ℕ, Bool, true, List, [], Contains, length, Option, None, Some, Result}
use Rattle.std.specs.Prelude.{Ok, Err, IfErr, OnOk, is_some}
use Rattle.htl_analyst.specs.States.{State}
use Rattle.htl_case.specs.Faults.{HaveOneContent, key_of}
use Rattle.htl_case.specs.declared.fault.CaseFault.TheVariants as cases
use Rattle.htl_command.specs.declared.question.Setting.{Setting}
use Rattle.htl_segment.specs.Content.{Content}
use Rattle.htl_segment.specs.Traces.{Trace}
use Rattle.htl_state.specs.Reading.{state_in}
use Rattle.htl_state.specs.Rows.{State as Rows}
use Rattle.htl_state.specs.declared.fault.StateError.{StateError}
use Rattle.htl_saved.specs.AnalystRows.{AreRowsOf, IsKept, IsSaved}
use Rattle.htl_saved.specs.Loads.{IsLoaded, LoadRefused}
use Rattle.htl_saved.specs.declared.fault.LoadFault.TheVariants as loads
use Rattle.htl_analyst.specs.declared.fault.RestoreFault.TheVariants as restores
use Rattle.htl_inputs.specs.declared.fault.RunFault.{RunFault}
use Rattle.htl_inputs.specs.declared.fault.RunFault.TheVariants as faults
use Rattle.htl_main.specs.Completeness.{IsLeastMissing}
use Rattle.htl_main.specs.Coverages.{IsCoverage}
use Rattle.htl_main.specs.Folding.{AreFolded, AreRising, IsCollectionOf}
use Rattle.htl_main.specs.declared.folding.Folded.{Folded}
use Rattle.htl_main.specs.declared.loading.adding.Added.{Added}

-- The bytes are the saved state of an analyst that took exactly these segments, of which none falls, and folded all that it can.
pub record IsStateOf (bytes : List ℕ) (segments : List Content) : Type 0 where
  pub analyst : State
  pub folded : AreFolded (Some analyst) segments
  pub trace : Trace
  pub collection : IsCollectionOf segments trace
  pub kept : IsKept analyst
  pub saved : IsSaved analyst bytes

-- ---- merging

-- Both lists are of one trace: no key has two contents in them, and no segment falls.
pub record AreOfOne (before told : List Content) : Type 0 where
  pub contents : HaveOneContent (before ++ told)
  pub rising : AreRising (before ++ told)

-- each of the one list has another trace id than each of the other
abbrev pub HaveOtherIds : List Content → List Content → Type 0
HaveOtherIds before told = (s t : Content) → Contains before s → Contains told t → s.trace_id ≢ t.trace_id

-- each has the same trace id, and another number of processors
abbrev pub HaveOtherCounts : List Content → List Content → Type 0
HaveOtherCounts before told =
    (s t : Content) → Contains before s → Contains told t → (s.trace_id ≡ t.trace_id) × (s.processors ≢ t.processors)

-- a key that has one content in the one list, and another in the other
pub record HasTwoContents (before told : List Content) (p n : ℕ) : Type 0 where
  pub one : Content
  pub other : Content
  pub before_has : Contains before one
  pub told_has : Contains told other
  pub one_key : key_of one ≡ (p, n)
  pub other_key : key_of other ≡ (p, n)
  pub differ : one ≢ other

-- all that either list has was taken, of which `Keeps` holds then
pub record IsMergedState (before told : List Content) (Keeps : List Content → Type 0) (added : Added) : Type 0 where
  pub kept : Keeps (before ++ told)
  pub segments : (T : Trace) → IsCollectionOf told T → added.segments ≡ length T.segments
  pub new : (T U : Trace) → IsCollectionOf before T → IsCollectionOf (before ++ told) U
      → length U.segments ≡ length T.segments + added.new
  pub coverage : (T : Trace) → IsCollectionOf (before ++ told) T → IsCoverage T added.coverage

-- The state of some segments was merged into what was folded of others; or there is a reason why not, and then what was folded `Stays`.
-- Where a complete trace is asked for, a gap is reported of what is merged. Of lists that aren't of one trace it is said only that one of
-- another trace, or of another number of processors, is refused.
abbrev pub EndsMerging : Bool → List Content → List Content → (List Content → Type 0) → Type 0 → Result Added RunFault → Type 0
EndsMerging complete before told Keeps Stays (Ok added) =
    (added.cut ≡ None) × (HaveOtherIds before told → before ≡ []) × (HaveOtherCounts before told → before ≡ [])
    × (AreOfOne before told → IsMergedState before told Keeps added)
EndsMerging complete before told Keeps Stays (Err (faults.Case (cases.OtherTrace place))) =
    (place ≡ 0) × (before ≢ []) × HaveOtherIds before told × Stays
EndsMerging complete before told Keeps Stays (Err (faults.Case (cases.OtherProcessors place))) =
    (place ≡ 0) × (before ≢ []) × HaveOtherCounts before told × Stays
EndsMerging complete before told Keeps Stays (Err (faults.Case (cases.TwoContents p n))) = HasTwoContents before told p n × Stays
EndsMerging complete before told Keeps Stays (Err (faults.Incomplete p n)) =
    (complete ≡ true) × (AreOfOne before told → Keeps (before ++ told)
    × ((T : Trace) → IsCollectionOf (before ++ told) T → IsLeastMissing T [] p n))
EndsMerging complete before told Keeps Stays (Err faults.Memory) = ⊤
EndsMerging complete before told Keeps Stays (Err fault) = ⊥

-- why bytes are refused that are no state, or none that obeys an analyst's rules
abbrev pub IsNoState : List ℕ → RunFault → Type 0
IsNoState bytes (faults.State place offset fault) =
    (place ≡ 0) × ((error : StateError) × (state_in bytes ≡ Err error) × (error.fault ≡ fault) × (error.offset ≡ offset))
IsNoState bytes (faults.Unbounded place processor) =
    (place ≡ 0) × (LoadRefused bytes (loads.Bounds (restores.Counts processor))
    ⊎ LoadRefused bytes (loads.Bounds (restores.Events processor)))
IsNoState bytes fault = ⊥

-- where bytes are refused, as no state or as one that doesn't go with what was folded, that stays; and why else nothing is merged
abbrev pub KeepsAtNoState : List ℕ → Folded → Folded → RunFault → Type 0
KeepsAtNoState bytes before after (faults.State place offset fault) =
    IsNoState bytes (faults.State place offset fault) × (after ≡ before)
KeepsAtNoState bytes before after (faults.Unbounded place processor) =
    IsNoState bytes (faults.Unbounded place processor) × (after ≡ before)
KeepsAtNoState bytes before after (faults.Case fault) = after ≡ before
KeepsAtNoState bytes before after (faults.Incomplete processor number) = ⊤
KeepsAtNoState bytes before after faults.Memory = ⊤
KeepsAtNoState bytes before after fault = ⊥

-- The state that bytes are was merged into what was folded, or there is a reason why not. Only a state is merged.
pub record MergesAs (setting : Setting) (bytes : List ℕ) (before after : Folded) (result : Result Added RunFault) : Type 0 where
  pub outcome : (taken told : List Content) → AreFolded before.analyst taken → IsStateOf bytes told
      → EndsMerging setting.complete taken told (AreFolded after.analyst) (after.analyst ≡ before.analyst) result
  pub loaded : OnOk result ((a : State) × IsLoaded bytes a)
  pub no_state : IfErr result (KeepsAtNoState bytes before after)
  pub symbols : after.symbols ≡ before.symbols

-- ---- saving

-- why nothing is saved: nothing was taken yet, or there are too many stacks, or memory was refused
abbrev pub IsUnsaved : Option State → RunFault → Type 0
IsUnsaved analyst (faults.Case cases.Empty) = analyst ≡ None
IsUnsaved None faults.StateStacks = ⊥
IsUnsaved (Some a) faults.StateStacks = (rows : Rows) → AreRowsOf a rows → 2 ^ 32 < length rows.stacks
IsUnsaved analyst faults.Memory = ⊤
IsUnsaved analyst fault = ⊥

-- Something was folded, and the bytes are the state of whatever segments that was.
pub record IsStateOfFolded (folded : Folded) (bytes : List ℕ) : Type 0 where
  pub some : is_some folded.analyst ≡ true
  pub state : (taken : List Content) (T : Trace) → AreFolded folded.analyst taken → IsCollectionOf taken T → IsStateOf bytes taken
