-- When an input's file is open (this project's own).
use Rattle.std.specs.Prelude.{◌≡◌, ◌<◌, ◌⊎◌, ◌&&◌, ⊤, ℕ, Bool, true, false, Option, is_some}
use Rattle.hleak.specs.declared.file.Stage.{Stage}
use Rattle.hleak.specs.declared.file.Stage.TheVariants.{Found, Open, Ended}

-- nothing was read, and the file isn't open
abbrev pub is_found : {F : Type 0} → Stage F → Bool
is_found Found = true
is_found (Open file) = false
is_found Ended = false

-- nothing was read of a regular file: one whose length is known
abbrev pub is_unread : {F : Type 0} → Stage F → Option ℕ → Bool
is_unread stage len = is_found stage && is_some len

-- a file that wasn't open is, and all else is as it was
abbrev pub IsBegun : {F : Type 0} → Stage F → Stage F → Type 0
IsBegun Found (Open file) = ⊤
IsBegun Found after = ⊥
IsBegun (Open file) after = after ≡ Open file
IsBegun Ended after = after ≡ Ended

-- After a read that gave so many bytes into a buffer of this length: the file is open until its end is found, and not after.
abbrev pub IsStageAfter : {F : Type 0} → Stage F → ℕ → ℕ → Stage F → Type 0
IsStageAfter Ended len count after = after ≡ Ended
IsStageAfter before len count Found = ⊥
IsStageAfter before len count (Open file) = (len ≡ 0) ⊎ (0 < count)
IsStageAfter before len count Ended = (count ≡ 0) × (0 < len)
