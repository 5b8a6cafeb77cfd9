-- How an address is printed, as bytes: by its symbol as the debugger does, and else by its digits.
use Rattle.std.specs.Prelude.{◌++◌, ◌∷◌, [], ◌==◌, ℕ, List, Option, Some, None, codes, flat_map, if◌then◌else◌}
use Rattle.htl_numbers.specs.Written.{hex, padded}
use Rattle.htl_symbols.specs.Ranges.{Range, resolved}

-- what ends every line
abbrev pub line_feed : List ℕ
line_feed = 10 ∷ []

-- the offset from the start of a range, which is left out at the start itself
abbrev pub after_start : ℕ → List ℕ
after_start offset = if offset == 0 then [] else codes "+0x" ++ hex offset

-- an address by its module, name and offset, where it has them
abbrev pub named : ℕ → Option (List ℕ × List ℕ × ℕ) → List ℕ
named address None = codes "0x" ++ padded 16 address
named address (Some s) = s.0 ++ (codes "!" ++ (s.1 ++ after_start s.2))

-- the line of a frame
abbrev pub frame_line : List Range → ℕ → List ℕ
frame_line symbols address = codes "  " ++ (named address (resolved symbols address) ++ line_feed)

-- the lines of a stack, the innermost frame first
abbrev pub stack_lines : List Range → List ℕ → List ℕ
stack_lines symbols frames = flat_map (frame_line symbols) frames
