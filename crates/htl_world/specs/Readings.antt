-- How the inputs of a run were read in a world (this project's own).
use Rattle.std.specs.Prelude.{◌≡◌, ◌⊎◌, ℕ, Bool, List, [], map, Option, String, Result, Err}
use Rattle.htl_device.specs.States.{SourceState, good_reads, has_failed, fresh}
use Rattle.htl_inputs.specs.Readings.{AreRead, AskForReaders}
use Rattle.htl_inputs.specs.Sources.{IsEndless, IsTrueAt}
use Rattle.htl_inputs.specs.declared.fault.RunFault.{RunFault}
use Rattle.htl_inputs.specs.declared.fault.RunFault.TheVariants.{Memory, Read, SymbolsRead}
use Rattle.htl_command.specs.declared.question.Setting.{Setting}
use Rattle.htl_world.specs.Worlds.{IsFirstRefused, Known, of_each, of_inputs}

-- why not all were opened: memory was refused, or a name was, and the first one is given
abbrev pub IsUnopenedFor : List (Option (List ℕ)) → List Bool → RunFault → Type 0
IsUnopenedFor holds absences fault =
    (fault ≡ Memory) ⊎ ((place : ℕ) × (fault ≡ Read place) × IsFirstRefused holds absences place)

-- None was read before the run ended for this fault: not all could be opened, and none is there; or all are as they were opened, and then
-- the table of symbols couldn't be read. It is given what is known of each input, and then of each name: what it holds, and whether there
-- is nothing to open.
abbrev pub AreUnread : List (Option (List ℕ)) → List (Option (List ℕ)) → List Bool → List SourceState → RunFault → Type 0
AreUnread known holds absences now fault =
    ((now ≡ []) × IsUnopenedFor holds absences fault) ⊎ ((now ≡ map fresh known) × ((fault ≡ SymbolsRead) ⊎ (fault ≡ Memory)))

-- They were read as any run reads its sources, or the run ended before any was.
abbrev pub AreInputs : {S : Type 0} → Bool → List (Option (List ℕ)) → List (Option (List ℕ)) → List Bool → List SourceState
    → Result S RunFault → Type 0
AreInputs is_text known holds absences now result =
    AreRead is_text (map fresh known) now result ⊎ ((fault : RunFault) × (result ≡ Err fault) × AreUnread known holds absences now fault)

-- A failed read is reported of a name that was refused, or of an input whose read failed or gave bytes too often. It is given what is known
-- of each input.
abbrev pub ReportsRead : {A S : Type 0} → Known → List (Option (List ℕ)) → List (String A) → List SourceState → Result S RunFault → Type 0
ReportsRead world known names now result =
    (place : ℕ) → result ≡ Err (Read place)
    → IsFirstRefused (of_each world.holds names) (of_each world.is_absent names) place
    ⊎ (IsTrueAt (map has_failed now) place ⊎ IsEndless (map good_reads now) known place)

-- How often other readers of inputs that hold this were asked for since they were opened, in this setting.
abbrev pub AreAskedFor : Setting → List (Option (List ℕ)) → List SourceState → Type 0
AreAskedFor setting known now = AskForReaders setting.form.hex setting.workers (map fresh known) now

-- Inputs of which this is known were opened for the names and read as any run reads its sources. A failed read is reported only of a name
-- that was refused, or of an input whose read failed or that has no end.
pub record ReadsKnown {A S : Type 0} (world : Known) (is_text : Bool) (known : List (Option (List ℕ))) (names : List (String A))
    (inputs : List SourceState) (result : Result S RunFault) : Type 0 where
  pub reading : AreInputs is_text known (of_each world.holds names) (of_each world.is_absent names) inputs result
  pub read : ReportsRead world known names inputs result

-- the same of the inputs of the names, which are standard input where there is no name
abbrev pub ReadsInputs : {A S : Type 0} → Known → Bool → List (String A) → List SourceState → Result S RunFault → Type 0
ReadsInputs world is_text names = ReadsKnown world is_text (of_inputs world.holds world.standard names) names
