-- What the kind of an error says of a device that failed.
use Rattle.std.specs.Prelude.{Bool, true, false, Option, Some}
use Rattle.std_io.specs.declared.io.kind.ErrorKind.{ErrorKind}
use Rattle.std_io.specs.declared.io.kind.ErrorKind.TheVariants.{BrokenPipe}

-- nobody reads the pipe any more
abbrev pub is_broken_pipe : Option ErrorKind → Bool
is_broken_pipe (Some BrokenPipe) = true
is_broken_pipe other = false
