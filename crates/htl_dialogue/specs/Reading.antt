-- For the clauses of private functions: the next line of a source.
use Rattle.std.specs.Prelude.{◌≡◌, ◌<◌, ◌≤◌, ℕ, Bool, true, false, List, [], ◌∷◌, ◌++◌, All, Option, length}
use Rattle.std.specs.Io.KnownBytes.{Consumes, IsAtEnd}
use Rattle.htl_dialogue.specs.Lines.{is_feed}
use Rattle.htl_dialogue.specs.declared.line.Line.{Line}
use Rattle.htl_dialogue.specs.declared.line.Line.TheVariants.{Whole, Long}
use Rattle.htl_dialogue.specs.declared.line.TheConstants.{MAX_LINE_LEN}
use Rattle.htl_dialogue.specs.declared.reading.NextLine.{NextLine}

-- these bytes as a line
abbrev pub IsLine : List ℕ → Line → Type 0
IsLine bytes (Whole kept) = (kept.items ≡ bytes) × (length bytes ≤ MAX_LINE_LEN)
IsLine bytes Long = MAX_LINE_LEN < length bytes

abbrev pub HasNoFeed : List ℕ → Type 0
HasNoFeed bytes = All (λ b. is_feed b ≡ false) bytes

-- a line feed and what follows it, where there is one
abbrev pub from_feed : Bool → List ℕ → List ℕ
from_feed true rest = 10 ∷ rest
from_feed false rest = []

-- The bytes before the first line feed went over to the line, and the line feed went too, if there was one.
pub record Moves (old new : List ℕ) (before after : Line) (found : Bool) : Type 0 where
  pub piece : List ℕ
  pub no_feed : HasNoFeed piece
  pub held : old ≡ piece ++ from_feed found new
  pub all : found ≡ false → new ≡ []
  pub grown : (bytes : List ℕ) → IsLine bytes before → IsLine (bytes ++ piece) after

-- what a line takes of a text: its bytes, and the line feed after it, unless it is the last
abbrev pub taken_of : Bool → List ℕ → List ℕ
taken_of true bytes = bytes
taken_of false bytes = bytes ++ 10 ∷ []

-- This is the next line of these bytes, where they are known.
pub record IsNext (old new : Option (List ℕ)) (next : NextLine) : Type 0 where
  pub bytes : List ℕ
  pub no_feed : HasNoFeed bytes
  pub line : IsLine bytes next.line
  pub taken : Consumes old new (taken_of next.is_last bytes)
  pub ended : next.is_last ≡ true → IsAtEnd new

-- a line was begun
pub record IsBegun (old new : Option (List ℕ)) : Type 0 where
  pub bytes : List ℕ
  pub no_feed : HasNoFeed bytes
  pub taken : Consumes old new bytes
