-- Where the first word of a line stands, and where a line ends.
use Rattle.std.specs.Prelude.{◌==◌, ℕ, zero, suc, Bool, List, [], ◌∷◌, if◌then◌else◌}
use Rattle.htl_text.specs.Lines.{is_blank}

-- how many blanks stand first
abbrev pub word_start : List ℕ → ℕ
word_start [] = zero
word_start (x ∷ xs) = if is_blank x then suc (word_start xs) else zero

-- the place of the first blank, or the length
abbrev pub word_end : List ℕ → ℕ
word_end [] = zero
word_end (x ∷ xs) = if is_blank x then zero else suc (word_end xs)

abbrev pub is_feed : ℕ → Bool
is_feed b = b == 10

-- the place of the first line feed, or the length
abbrev pub line_end : List ℕ → ℕ
line_end [] = zero
line_end (x ∷ xs) = if is_feed x then zero else suc (line_end xs)
