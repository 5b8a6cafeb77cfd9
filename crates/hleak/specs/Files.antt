-- What a file holds, and what is left of it.
use Rattle.std.specs.Prelude.{◌≡◌, ◌<◌, ◌^◌, ◌-◌, ℕ, List, [], Option, Some, length, string_bytes}
use Rattle.htl_device.specs.Devices.{tail_of}
use Rattle.htl_world.specs.Worlds.{Known}
use Rattle.hleak.specs.declared.file.Place.{Place}
use Rattle.hleak.specs.declared.file.Place.TheVariants.{Named, Standard}
use Rattle.hleak.specs.declared.file.Stage.{Stage}
use Rattle.hleak.specs.declared.file.Stage.TheVariants.{Found, Open, Ended}

-- what is known of the bytes of the file that is opened by a name, or as standard input
abbrev pub held_by : Known → Place → Option (List ℕ)
held_by known (Named name) = known.holds (string_bytes name)
held_by known Standard = known.standard

-- what is left of a file that holds these bytes, of which so many in front aren't read
abbrev pub left_of : {F : Type 0} → (F → Option (List ℕ)) → Option (List ℕ) → ℕ → Stage F → Option (List ℕ)
left_of remaining held skipped Found = tail_of skipped held
left_of remaining held skipped (Open file) = remaining file
left_of remaining held skipped Ended = Some []

-- a file of these bytes has so many behind those that are skipped, and no more than 64 bits count
abbrev pub IsLenBehind : Option ℕ → ℕ → Option (List ℕ) → Type 0
IsLenBehind len skipped held =
    (n : ℕ) (bytes : List ℕ) → len ≡ Some n → held ≡ Some bytes → (length bytes < 2 ^ 64) × (length bytes - skipped ≡ n)
