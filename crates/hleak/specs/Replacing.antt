-- How a file is replaced as a whole (this project's own).
use Rattle.std.specs.Prelude.{◌≡◌, ◌⊎◌, ◌++◌, ◌∷◌, [], ⊤, ℕ, Bool, true, false, List, Option, None, Some, Result, Ok, Err, codes}
use Rattle.std.specs.Fmt.{decimal}
use Rattle.std.specs.Path.{path_parent}
use Rattle.std_io.specs.IoError.{error_kind}
use Rattle.std_io.specs.declared.io.error.Error.{Error}
use Rattle.std_io.specs.declared.io.kind.ErrorKind.TheVariants.{OutOfMemory}

-- ---- names

-- the name of the file beside that of a name, for a process: one that no other process writes
abbrev pub name_beside : List ℕ → ℕ → List ℕ
name_beside name process = name ++ (codes "." ++ (decimal process ++ codes ".new"))

-- the folder in which the program runs has no name of its own, but `.`
abbrev pub or_here : List ℕ → List ℕ
or_here [] = codes "."
or_here (b ∷ more) = b ∷ more

abbrev pub folder_in : Option (List ℕ) → List ℕ
folder_in None = codes "/"
folder_in (Some folder) = or_here folder

-- the folder that a name is in: that of the path's last component
abbrev pub folder_of : List ℕ → List ℕ
folder_of name = folder_in (path_parent name)

-- ---- steps

-- One thing that a system was asked for, and whether it did it: to write a file of these bytes, which the disk has then; to give a file
-- another name, at which it replaces what was there; to bring to the disk which names a folder has; or to remove a file, if it can.
pub data Step : Type 0 where
  to_write : List ℕ → List ℕ → Bool → Step
  to_rename : List ℕ → List ℕ → Bool → Step
  to_sync : List ℕ → Bool → Step
  to_remove : List ℕ → Step

-- Steps that are known go on with these, or are known no longer. What isn't known stays so.
abbrev pub Takes : Option (List Step) → Option (List Step) → List Step → Type 0
Takes None new steps = new ≡ None
Takes (Some before) None steps = ⊤
Takes (Some before) (Some new) steps = new ≡ before ++ steps

-- the steps by which a name gets these bytes: first a file beside it has them
abbrev pub replacing : List ℕ → List ℕ → List ℕ → List Step
replacing beside name bytes = to_write beside bytes true ∷ to_rename beside name true ∷ to_sync (folder_of name) true ∷ []

-- the steps of which one fails before the name has other bytes; then the file beside it is removed
abbrev pub unwritten : List ℕ → List ℕ → List Step
unwritten beside bytes = to_write beside bytes false ∷ to_remove beside ∷ []

abbrev pub unnamed : List ℕ → List ℕ → List ℕ → List Step
unnamed beside name bytes = to_write beside bytes true ∷ to_rename beside name false ∷ to_remove beside ∷ []

-- or once it has them, and the disk may not know the name
abbrev pub unsynced : List ℕ → List ℕ → List ℕ → List Step
unsynced beside name bytes = to_write beside bytes true ∷ to_rename beside name true ∷ to_sync (folder_of name) false ∷ []

-- A file of a name was replaced by these bytes; or it wasn't, since a step failed, or since memory was refused before the first.
abbrev pub IsReplaced : {X : Type 0} → Option (List Step) → Option (List Step) → List ℕ → List ℕ → List ℕ → Result X Error → Type 0
IsReplaced old new beside name bytes (Ok done) = Takes old new (replacing beside name bytes)
IsReplaced old new beside name bytes (Err fault) =
    ((new ≡ old) × (error_kind fault ≡ OutOfMemory)) ⊎ (Takes old new (unwritten beside bytes)
    ⊎ (Takes old new (unnamed beside name bytes) ⊎ Takes old new (unsynced beside name bytes)))

-- The file beside a name has these bytes, and then its name; or one of the two failed.
abbrev pub IsPut : {X E : Type 0} → Option (List Step) → Option (List Step) → List ℕ → List ℕ → List ℕ → Result X E → Type 0
IsPut old new beside name bytes (Ok done) = Takes old new (to_write beside bytes true ∷ to_rename beside name true ∷ [])
IsPut old new beside name bytes (Err fault) =
    Takes old new (to_write beside bytes false ∷ []) ⊎ Takes old new (to_write beside bytes true ∷ to_rename beside name false ∷ [])
