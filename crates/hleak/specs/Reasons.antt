-- Why the system refuses to open, to read or to write something (this project's own).
use Rattle.std.specs.Prelude.{◌==◌, ◌||◌, ℕ, ℤ, pos, Bool, false, List, Option, Some, codes, if◌then◌else◌}
use Rattle.std_io.specs.IoError.{error_kind, raw_os_error}
use Rattle.std_io.specs.declared.io.error.Error.{Error}
use Rattle.std_io.specs.declared.io.kind.ErrorKind.{ErrorKind}
use Rattle.std_io.specs.declared.io.kind.ErrorKind.TheVariants as kinds
use Rattle.hleak.specs.declared.reason.Reason.{Reason}
use Rattle.hleak.specs.declared.reason.Reason.TheVariants.{NotThere, NotAllowed, Folder, TooManyOpen, Unknown}

-- Linux's numbers of the two errors that too many files are open
abbrev pub is_too_many : Option ℤ → Bool
is_too_many (Some (pos number)) = (number == 23) || (number == 24)
is_too_many other = false

abbrev pub reason_of_kind : ErrorKind → Reason
reason_of_kind kinds.NotFound = NotThere
reason_of_kind kinds.NotADirectory = NotThere
reason_of_kind kinds.PermissionDenied = NotAllowed
reason_of_kind kinds.IsADirectory = Folder
reason_of_kind kind = Unknown

abbrev pub reason_of : Error → Reason
reason_of error = if is_too_many (raw_os_error error) then TooManyOpen else reason_of_kind (error_kind error)

-- what is wrong
abbrev pub wrong_by : Reason → List ℕ
wrong_by NotThere = codes "there is no such file"
wrong_by NotAllowed = codes "you aren't allowed to read it"
wrong_by Folder = codes "it is a folder"
wrong_by TooManyOpen = codes "too many files are open"
wrong_by Unknown = codes "it can't be opened or read"

-- what to do
abbrev pub advice_by : Reason → List ℕ
advice_by NotThere = codes "is its name right?"
advice_by NotAllowed = codes "are its rights, and those of the folders above it, as they should be?"
advice_by Folder = codes "give the files in it"
advice_by TooManyOpen = codes "raise their limit (ulimit -n), or give fewer pipes at once"
advice_by Unknown = codes "is it a file, is it there, and may you read it?"

-- the same of a state that can't be saved
abbrev pub unsaved_by : Reason → List ℕ
unsaved_by NotThere = codes "its folder isn't there"
unsaved_by NotAllowed = codes "you aren't allowed to write in its folder"
unsaved_by Folder = codes "it is a folder"
unsaved_by TooManyOpen = codes "too many files are open"
unsaved_by Unknown = codes "it can't be written"

abbrev pub unsaved_advice_by : Reason → List ℕ
unsaved_advice_by NotThere = codes "is its name right?"
unsaved_advice_by NotAllowed = codes "are the rights of its folder, and of those above it, as they should be?"
unsaved_advice_by Folder = codes "give the name of a file in it"
unsaved_advice_by TooManyOpen = codes "raise their limit (ulimit -n)"
unsaved_advice_by Unknown = codes "is a disk full?"
