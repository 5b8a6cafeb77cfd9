-- For the clauses of private functions: what comes of loading a state, and of merging it into what was folded.
use Rattle.std.specs.Prelude.{◌≡◌, ◌≢◌, ◌++◌, ⊤, ℕ, true, List, [], Option, Some, is_some}
use Rattle.htl_analyst.specs.States.{State}
use Rattle.htl_analyst.specs.declared.fault.MergeFault.{MergeFault}
use Rattle.htl_analyst.specs.declared.fault.MergeFault.TheVariants as merges
use Rattle.htl_case.specs.declared.fault.CaseFault.{CaseFault}
use Rattle.htl_case.specs.declared.fault.CaseFault.TheVariants as cases
use Rattle.htl_segment.specs.Content.{Content}
use Rattle.htl_inputs.specs.declared.fault.RunFault.{RunFault}
use Rattle.htl_inputs.specs.declared.fault.RunFault.TheVariants.{Case, Memory}
use Rattle.htl_main.specs.Folding.{AreFolded}
use Rattle.htl_main.specs.SavedStates.{AreOfOne, HasTwoContents, HaveOtherCounts, HaveOtherIds, IsNoState}

-- memory was refused, or the bytes are no state
abbrev pub IsLoadFault : List ℕ → RunFault → Type 0
IsLoadFault bytes Memory = ⊤
IsLoadFault bytes fault = IsNoState bytes fault

-- The first list was folded, and a state of the other list was merged into it: then both are folded, if they are of one trace.
pub record AreMerged (before told : List Content) (now : Option State) : Type 0 where
  pub ids : HaveOtherIds before told → before ≡ []
  pub counts : HaveOtherCounts before told → before ≡ []
  pub folded : AreOfOne before told → AreFolded now (before ++ told)

-- Another state was merged into what was folded, and all that can be folded then is.
pub record IsAbsorbed (old : Option State) (other : State) (now : Option State) : Type 0 where
  pub some : is_some now ≡ true
  pub both : (before told : List Content) → AreFolded old before → AreFolded (Some other) told → AreMerged before told now

-- why analysts aren't merged, as a fault of a run
abbrev pub of_merge : MergeFault → RunFault
of_merge merges.OtherTrace = Case (cases.OtherTrace 0)
of_merge merges.OtherProcessors = Case (cases.OtherProcessors 0)
of_merge (merges.Conflict processor number) = Case (cases.TwoContents processor number)
of_merge merges.NoMemory = Memory

-- why the state of a list isn't merged into what was folded of another one
abbrev pub IsUnmerged : List Content → List Content → CaseFault → Type 0
IsUnmerged before told (cases.OtherTrace place) = (place ≡ 0) × (before ≢ []) × HaveOtherIds before told
IsUnmerged before told (cases.OtherProcessors place) = (place ≡ 0) × (before ≢ []) × HaveOtherCounts before told
IsUnmerged before told (cases.TwoContents p n) = HasTwoContents before told p n
IsUnmerged before told fault = ⊥

-- The other state isn't merged, and what was folded stays; or memory was refused.
abbrev pub IsNotAbsorbed : Option State → State → Option State → RunFault → Type 0
IsNotAbsorbed old other now Memory = ⊤
IsNotAbsorbed old other now (Case fault) =
    (now ≡ old) × ((before told : List Content) → AreFolded old before → AreFolded (Some other) told → IsUnmerged before told fault)
IsNotAbsorbed old other now fault = ⊥
