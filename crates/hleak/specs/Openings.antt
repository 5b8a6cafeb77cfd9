-- What the system says of a file, and why it could not be opened.
use Rattle.std.specs.Prelude.{◌≡◌, ◌⊎◌, ⊤, ℕ, Bool, true, false, Result, Ok, Err}
use Rattle.std.specs.Prelude.{Option, None, Some}
use Rattle.std.specs.Fs.{IsDir, IsFile, file_type, metadata_len}
use Rattle.std.specs.declared.fs.attrs.Metadata.{Metadata}
use Rattle.std_io.specs.declared.io.kind.ErrorKind.{ErrorKind}
use Rattle.std_io.specs.declared.io.kind.ErrorKind.TheVariants.{OutOfMemory}
use Rattle.htl_world.specs.declared.world.OpenFault.{OpenFault}
use Rattle.htl_world.specs.declared.world.OpenFault.TheVariants.{NoMemory, Refused}

-- How many bytes it has that the system says this of: a regular file has a known length, and nothing else.
abbrev pub IsKnownLen : {E : Type 0} → Result Metadata E → Option ℕ → Type 0
IsKnownLen (Ok of) (Some len) = IsFile (file_type of) × (len ≡ metadata_len of)
IsKnownLen (Ok of) None = ¬ IsFile (file_type of)
IsKnownLen (Err refused) (Some len) = ⊥
IsKnownLen (Err refused) None = ⊤

-- it gives other bytes each time that it is opened, unless the system says that it is a regular file or a folder
abbrev pub IsStream : {E : Type 0} → Result Metadata E → Bool → Type 0
IsStream (Ok of) true = (¬ IsFile (file_type of)) × (¬ IsDir (file_type of))
IsStream (Ok of) false = IsFile (file_type of) ⊎ IsDir (file_type of)
IsStream (Err refused) is_stream = is_stream ≡ true

-- why a file could not be opened or read, as the system says
abbrev pub open_fault : ErrorKind → OpenFault
open_fault OutOfMemory = NoMemory
open_fault _ = Refused
