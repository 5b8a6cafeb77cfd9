-- Help of a line of a dialogue that is no question (this project's own).
use Rattle.std.specs.Prelude.{⊤}
use Rattle.htl_command.specs.declared.fault.ParseFault.{ParseFault}
use Rattle.htl_command.specs.declared.fault.ParseFault.TheVariants.{Help, Usage, Memory}

-- it was asked for and is told, unless memory is refused
abbrev pub IsHelp : ParseFault → Type 0
IsHelp (Help text) = ⊤
IsHelp (Usage text) = ⊥
IsHelp Memory = ⊤
