-- What a disk gives, and what is known of it (this project's own).
use Rattle.std.specs.Prelude.{◌≡◌, ◌⊎◌, ℕ, Bool, false, List, Option, None, IfErr, IfSome, OnOk, Result, length}
use Rattle.std_io.specs.IoError.{error_kind}
use Rattle.std_io.specs.declared.io.error.Error.{Error}
use Rattle.std_io.specs.declared.io.kind.ErrorKind.TheVariants.{OutOfMemory}
use Rattle.htl_world.specs.Worlds.{Known}
use Rattle.hleak.specs.declared.disk.Found.{Found}

-- A name gives something only where something is there. Where it gives nothing, memory was refused, or nothing is known of its bytes.
pub record IsAnswered {X : Type 0} (known : Known) (name : List ℕ) (result : Result X Error) : Type 0 where
  pub there : OnOk result (known.is_absent name ≡ false)
  pub refused : IfErr result (λ error. (error_kind error ≡ OutOfMemory) ⊎ (known.holds name ≡ None))

-- The file has these bytes, and so many, where the system says how many.
pub record IsFound {F : Type 0} (remaining : F → Option (List ℕ)) (held : Option (List ℕ)) (is_stream : Option Bool) (found : Found F)
    : Type 0
  where
    pub bytes : remaining found.file ≡ held
    pub len : IfSome found.len (λ len. IfSome held (λ bytes. length bytes ≡ len))
    pub stream : IfSome is_stream (λ is. found.is_stream ≡ is)
