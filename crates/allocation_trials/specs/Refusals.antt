-- Out of memory (this project's own).
use Rattle.std.specs.Prelude.{◌≡◌}
use Rattle.htl_analyst.specs.declared.fault.RestoreFault.TheVariants as restores
use Rattle.htl_saved.specs.declared.fault.LoadFault.{LoadFault}
use Rattle.htl_saved.specs.declared.fault.LoadFault.TheVariants.{Format, Bounds}
use Rattle.htl_state.specs.declared.fault.Fault.TheVariants as states
use Rattle.allocation_trials.specs.declared.refusal.Refusal.{Refusal}
use Rattle.allocation_trials.specs.declared.refusal.Refusal.TheVariants.{Memory}

-- a refusal that reports out of memory
abbrev pub IsOutOfMemory : Refusal → Type 0
IsOutOfMemory refusal = refusal ≡ Memory

-- a state isn't loaded for want of memory, for its rows or for the analyst
abbrev pub LacksMemory : LoadFault → Type 0
LacksMemory (Format error) = error.fault ≡ states.NoMemory
LacksMemory (Bounds fault) = fault ≡ restores.NoMemory
