-- The exit statuses of the program (this project's own).
use Rattle.std.specs.Prelude.{ℕ}
use Rattle.htl_inputs.specs.declared.fault.RunFault.{RunFault}
use Rattle.htl_inputs.specs.declared.fault.RunFault.TheVariants.{Workers, Segment, Hex, Text, Case, Incomplete, NoSubject, Symbols, Read}
use Rattle.htl_inputs.specs.declared.fault.RunFault.TheVariants.{SymbolsRead, Write, Memory, NoThread, UnknownCut}
use Rattle.htl_inputs.specs.declared.fault.RunFault.TheVariants.{State, Unbounded, StateRead, StateWrite, StateStacks}

abbrev pub status_of : RunFault → ℕ
status_of Workers = 2
status_of (Segment input offset fault) = 3
status_of (Hex input fault) = 3
status_of (Text input line fault event) = 3
status_of (State state offset fault) = 3
status_of (Unbounded state processor) = 3
status_of (Case fault) = 4
status_of (Incomplete processor number) = 4
status_of NoSubject = 4
status_of (UnknownCut input) = 4
status_of (Read input) = 5
status_of SymbolsRead = 5
status_of Write = 5
status_of (StateRead state) = 5
status_of StateWrite = 5
status_of StateStacks = 5
status_of Memory = 6
status_of NoThread = 6
status_of (Symbols fault) = 7
