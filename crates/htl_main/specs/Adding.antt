-- What more sources bring to a case, or why they are refused (this project's own). What was loaded before is given by the segments of its
-- case.
use Rattle.std.specs.Prelude.{◌≡◌, ◌+◌, ◌++◌, ◌∷◌, [], ℕ, Bool, true, false, List, Option, Some, None, codes, length}
use Rattle.std.specs.Fmt.{decimal}
use Rattle.htl_case.specs.Cases.{IsCaseOf}
use Rattle.htl_command.specs.declared.question.InputForm.{InputForm}
use Rattle.htl_command.specs.declared.question.Job.{Job}
use Rattle.htl_command.specs.declared.question.Setting.{Setting}
use Rattle.htl_segment.specs.Content.{Content}
use Rattle.htl_segment.specs.Traces.{Trace}
use Rattle.htl_inputs.specs.CutInputs.{AreCut, AreCutEnds}
use Rattle.htl_inputs.specs.declared.cuts.CutEnd.{CutEnd}
use Rattle.htl_inputs.specs.Inputs.{DecodeAll, Decodes}
use Rattle.htl_main.specs.Completeness.{IsComplete}
use Rattle.htl_main.specs.Coverages.{IsCoverage}
use Rattle.htl_main.specs.Loading.{in_setting}
use Rattle.htl_main.specs.Origins.{IsBetween}
use Rattle.htl_main.specs.Causes.{IsSourcesCause}
use Rattle.htl_main.specs.declared.loading.adding.Added.{Added}
use Rattle.htl_main.specs.declared.refused.Refused.{Refused}

-- Added: the case is that of the segments of the inputs and of those before, and is complete where that is asked for, whichever of the
-- inputs are cut. `added` counts the segments of the inputs, and those whose keys were not there.
pub record IsAdded (form : InputForm) (complete : Bool) (before : List Content) (inputs : List (List ℕ)) (after : Trace) (added : Added)
    : Type 0 where
  pub segments : List Content
  pub decoded : DecodeAll form inputs segments
  pub case : IsCaseOf (segments ++ before) after
  pub cuts : List CutEnd
  pub cut_ends : AreCutEnds form.hex inputs cuts
  pub whole : complete ≡ true → IsComplete after cuts
  pub counted : added.segments ≡ length segments
  pub new : length after.segments ≡ length before + added.new
  pub coverage : IsCoverage after added.coverage
  pub cut : AreCut form.hex inputs added.cut

-- Refused: as by a run over these inputs and one more after them, which has just the segments from before and was read to its end.
abbrev pub IsAddingRefused : Setting → List Content → List (List ℕ) → List (Option (List ℕ)) → List Bool → Refused → Type 0
IsAddingRefused setting before inputs lefts ends refused =
    (earlier : List ℕ) (job : Job) → Decodes (record (setting.form) { partial = false }) earlier before → job.until ≡ None
    → IsSourcesCause (in_setting setting job) (inputs ++ earlier ∷ []) (lefts ++ Some [] ∷ []) (ends ++ true ∷ []) None refused.fault
    × IsBetween setting.form (inputs ++ earlier ∷ []) refused.fault refused.between

-- the line that says what was added
abbrev pub added_text : Added → List ℕ
added_text added =
    codes "read segments=" ++ (decimal added.segments ++ (codes " new=" ++ (decimal added.new
    ++ (codes " complete_to=" ++ (decimal added.coverage.complete_to ++ (codes " gaps=" ++ decimal added.coverage.gaps))))))
