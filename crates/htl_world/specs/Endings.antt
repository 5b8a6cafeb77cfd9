-- How a run ends whose inputs or table of symbols can't be opened (this project's own).
use Rattle.std.specs.Prelude.{◌≡◌, ◌⊎◌, ℕ, Result, Err}
use Rattle.htl_inputs.specs.declared.fault.RunFault.{RunFault}
use Rattle.htl_inputs.specs.declared.fault.RunFault.TheVariants.{Memory, Read, SymbolsRead}

-- the input at the place could not be opened, as far as there was memory to find it
abbrev pub IsUnopened : {S : Type 0} → ℕ → Result S RunFault → Type 0
IsUnopened place result = (result ≡ Err (Read place)) ⊎ (result ≡ Err Memory)

-- the table of symbols could not be opened, as far as there was memory to find it
abbrev pub IsUntabled : {S : Type 0} → Result S RunFault → Type 0
IsUntabled result = (result ≡ Err SymbolsRead) ⊎ (result ≡ Err Memory)
