-- The lines of a text, and the arguments of a line (this project's own). Where quotes and blanks stand decides how a line is
-- split; what arguments mean is the command line's matter.
use Rattle.std.specs.Prelude.{◌≡◌, ⊤, ℕ, ◌==◌, ◌&&◌, ◌||◌, Bool, true, false, not, List, [], ◌∷◌, filter, map, if◌then◌else◌}
use Rattle.std.specs.List.{list_all, slice_split}
use Rattle.std.specs.Str.{is_utf8}
use Rattle.htl_dialogue.specs.declared.splitting.ArgumentFault.{ArgumentFault}
use Rattle.htl_dialogue.specs.declared.splitting.ArgumentFault.TheVariants.{OpenQuote, NotUtf8, NoMemory}

abbrev pub is_feed : ℕ → Bool
is_feed b = b == 10

-- The lines of a text: what stands between line feeds. A text that ends with a line feed has an empty line after it.
unfoldable pub lines_of_dialogue : List ℕ → List (List ℕ)
lines_of_dialogue text = slice_split is_feed text

abbrev pub is_quote : ℕ → Bool
is_quote b = b == 34

-- a space, a tab or a carriage return, so that a line may end in one
abbrev pub is_blank : ℕ → Bool
is_blank b = b == 32 || (b == 9 || b == 13)

-- whether what follows a byte stands in quotes
abbrev pub turned : Bool → ℕ → Bool
turned quoted b = if is_quote b then not quoted else quoted

-- each byte of a line, and whether it stands in quotes: whether an odd number of quotes is before it
abbrev pub marked : Bool → List ℕ → List (ℕ × Bool)
marked quoted [] = []
marked quoted (b ∷ more) = (b, quoted) ∷ marked (turned quoted b) more

-- a blank separates arguments where it doesn't stand in quotes
abbrev pub separates : ℕ × Bool → Bool
separates (b, quoted) = is_blank b && not quoted

-- a list has an element
abbrev pub is_some : {X : Type 0} → List X → Bool
is_some [] = false
is_some (x ∷ more) = true

-- a part without its quotes
abbrev pub argument_of : List (ℕ × Bool) → List ℕ
argument_of part = filter (λ b. not (is_quote b)) (map (λ m. m.0) part)

-- The arguments of a line: what stands between blanks that separate, without its quotes, where something is left.
unfoldable pub arguments_of : List ℕ → List (List ℕ)
arguments_of line = filter is_some (map argument_of (slice_split separates (marked false line)))

-- whether a line ends in quotes, which a quote that is not ended leaves so
abbrev pub ends_quoted : Bool → List ℕ → Bool
ends_quoted quoted [] = quoted
ends_quoted quoted (b ∷ more) = ends_quoted (turned quoted b) more

-- why a line can't be read: a quote isn't ended, or else an argument is not text
abbrev pub IsUnreadable : List ℕ → ArgumentFault → Type 0
IsUnreadable line OpenQuote = ends_quoted false line ≡ true
IsUnreadable line NotUtf8 = (ends_quoted false line ≡ false) × (list_all is_utf8 (arguments_of line) ≡ false)
IsUnreadable line NoMemory = ⊤
