-- The exit statuses of a command line that gives no job (this project's own).
use Rattle.std.specs.Prelude.{ℕ}
use Rattle.htl_command.specs.declared.fault.ParseFault.{ParseFault}
use Rattle.htl_command.specs.declared.fault.ParseFault.TheVariants.{Help, Usage, Memory}

abbrev pub status_of : ParseFault → ℕ
status_of (Help text) = 0
status_of (Usage text) = 2
status_of Memory = 6
