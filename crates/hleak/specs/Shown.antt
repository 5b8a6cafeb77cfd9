-- Texts of a caller as a terminal is given them (this project's own).
use Rattle.std.specs.Prelude.{◌&&◌, ◌||◌, ◌==◌, ◌++◌, ◌∷◌, [], not, ℕ, Bool, false, List, flat_map, if◌then◌else◌, nat_le}
use Rattle.std.specs.Char.{encode_utf8, is_control}
use Rattle.std.specs.Str.{chars}
use Rattle.htl_numbers.specs.Written.{hex}

-- the controls of Unicode's bidirectional algorithm, which turn the direction of writing
abbrev pub turns : ℕ → Bool
turns c = (c == 0x61C) || (c == 0x200E) || (c == 0x200F) || (nat_le 0x202A c && nat_le c 0x202E) || (nat_le 0x2066 c && nat_le c 0x2069)

-- a character that a terminal is given as it is; a text of several lines keeps their ends
abbrev pub is_kept : Bool → ℕ → Bool
is_kept has_lines c = (not (turns c) && not (is_control c)) || (has_lines && (c == 10))

-- a backslash and a letter for a tab and the ends of lines, and the number for any other character
abbrev pub escape : ℕ → List ℕ
escape c =
    if c == 9 then 92 ∷ 116 ∷ [] else (if c == 10 then 92 ∷ 110 ∷ [] else (if c == 13 then 92 ∷ 114 ∷ [] else
    92 ∷ 117 ∷ 123 ∷ (hex c ++ (125 ∷ []))))

abbrev pub shown_char : Bool → ℕ → List ℕ
shown_char is_kept c = if is_kept then encode_utf8 c else escape c

-- each character one after the other
abbrev pub shown_text : Bool → List ℕ → List ℕ
shown_text has_lines text = flat_map (λ c. shown_char (is_kept has_lines c) c) (chars text)

-- a name, which stands in one line
abbrev pub shown_name : List ℕ → List ℕ
shown_name text = shown_text false text
