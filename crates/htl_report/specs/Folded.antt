-- The text of an answer for flame graph programs, as bytes: a line for each leaking stack, its frames from the outermost to the innermost.
use Rattle.std.specs.Prelude.{◌++◌, ◌∷◌, [], ◌==◌, ◌||◌, ℕ, List, Option, codes, flat_map, if◌then◌else◌, map, reverse}
use Rattle.std.specs.Fmt.{decimal}
use Rattle.std.specs.List.{join_by}
use Rattle.htl_event.specs.Sites.{Site}
use Rattle.htl_symbols.specs.Ranges.{Range, resolved}
use Rattle.htl_report.specs.Addresses.{line_feed, named}
use Rattle.htl_question.specs.Rows.{Found, Listed, leaks, sites}
use Rattle.htl_report.specs.Rows.{first_rows}
use Rattle.htl_report.specs.Texts.{text_of}

-- `;` separates frames, and a line feed or carriage return ends a line, so within a name `:` and a space stand for them
abbrev pub folded_byte : ℕ → ℕ
folded_byte b = if b == 59 then 58 else (if b == 10 || b == 13 then 32 else b)

-- an address as other texts print it, each byte as `folded_byte` has it
abbrev pub folded_frame : List Range → ℕ → List ℕ
folded_frame symbols address = map folded_byte (named address (resolved symbols address))

-- the frames, the outermost first
abbrev pub folded_stack : List Range → List ℕ → List ℕ
folded_stack symbols [] = codes "(no stack)"
folded_stack symbols (frame ∷ frames) = join_by (folded_frame symbols) (codes ";") (reverse (frame ∷ frames))

-- a space and how many handles
unfoldable pub folded_count : ℕ → List ℕ
folded_count handles = codes " " ++ (decimal handles ++ line_feed)

-- a stack, and how many handles it opened
abbrev pub folded_line : List Range → List ℕ → ℕ → List ℕ
folded_line symbols stack handles = folded_stack symbols stack ++ folded_count handles

-- the leaking stacks, with no first line; the handles of a site are those of all processes, and any other answer is not folded
abbrev pub folded_lines : List Range → Option ℕ → Option ℕ → Found → Listed → List ℕ
folded_lines symbols until top answer (leaks rows) =
    flat_map (λ (row : List ℕ × ℕ). folded_line symbols row.0 row.1) (first_rows top rows)
folded_lines symbols until top answer (sites rows) =
    flat_map (λ (site : Site). folded_line symbols site.stack site.handles) (first_rows top rows)
folded_lines symbols until top answer unfolded = text_of symbols until top answer
