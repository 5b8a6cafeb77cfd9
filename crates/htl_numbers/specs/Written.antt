-- How texts write numbers in hexadecimal digits, as bytes.
use Rattle.std.specs.Prelude.{false, ◌-◌, ◌++◌, ℕ, List, length, replicate}
use Rattle.std.specs.Fmt.{digits}

-- lower-case digits without leading zeros
abbrev pub hex : ℕ → List ℕ
hex n = digits 16 false n

-- zeros before them, so that there are as many digits as the width
abbrev pub padded : ℕ → ℕ → List ℕ
padded width n = replicate (width - length (hex n)) 48 ++ hex n
