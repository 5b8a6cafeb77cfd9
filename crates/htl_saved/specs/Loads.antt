-- What bytes are loaded as, and why they aren't (this project's own).
use Rattle.std.specs.Prelude.{◌≡◌, ◌⊎◌, ℕ, List, Err}
use Rattle.htl_analyst.specs.States.{State as Analyst}
use Rattle.htl_analyst.specs.Right.{IsState}
use Rattle.htl_analyst.specs.Restored.{RestoreRefused}
use Rattle.htl_state.specs.declared.fault.Fault.TheVariants as faults
use Rattle.htl_state.specs.Reading.{state_in}
use Rattle.htl_state.specs.Rows.{State}
use Rattle.htl_state.specs.WellFormed.{Spells}
use Rattle.htl_saved.specs.declared.fault.LoadFault.{LoadFault}
use Rattle.htl_saved.specs.declared.fault.LoadFault.TheVariants.{Format, Bounds}
use Rattle.htl_saved.specs.Restored.{state_told, folds_told}

-- the state is that which the rows of the bytes tell
pub record IsLoaded (bytes : List ℕ) (a : Analyst) : Type 0 where
  pub rows : State
  pub spelled : Spells bytes rows
  pub told : a ≡ state_told rows
  pub state : IsState a

-- Why bytes aren't loaded: they are no state of the format, or their rows tell no state of an analyst.
abbrev pub LoadRefused : List ℕ → LoadFault → Type 0
LoadRefused bytes (Format error) = (error.fault ≡ faults.NoMemory) ⊎ (state_in bytes ≡ Err error)
LoadRefused bytes (Bounds fault) = (rows : State) × Spells bytes rows × RestoreRefused (folds_told rows) fault
