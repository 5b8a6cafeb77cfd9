-- The next line is the first of the lines that are left.
use Rattle.std.proofs.Common.{◌≡◌, ◌∙◌, ℕ, Bool, true, false, List, [], ◌∷◌, ◌++◌, None, Some, refl, ap, append_assoc}
use Rattle.std.specs.Prelude.{Option}
use Rattle.std.specs.Io.KnownBytes.{Consumes, IsAtEnd}
use Rattle.std.proofs.lemmas.List.{append-nil}
use Rattle.std.proofs.lemmas.List.Splits.{slice_split_at, slice_split_none}
use Rattle.htl_dialogue.specs.Lines.{is_feed, lines_of_dialogue}
use Rattle.htl_dialogue.specs.Reading.{HasNoFeed, IsLine, IsNext, taken_of}
use Rattle.htl_dialogue.specs.declared.line.Line.{Line}
use Rattle.htl_dialogue.specs.declared.reading.NextLine.{NextLine}

-- a line feed ends a line
pub line_first : (bytes later : List ℕ) → HasNoFeed bytes → lines_of_dialogue (bytes ++ 10 ∷ later) ≡ bytes ∷ lines_of_dialogue later
unfolding lines_of_dialogue
line_first bytes later none = slice_split_at is_feed bytes 10 later none refl

-- a text without one is a line
pub one_line : (bytes : List ℕ) → HasNoFeed bytes → lines_of_dialogue bytes ≡ bytes ∷ []
unfolding lines_of_dialogue
one_line bytes none = slice_split_none is_feed bytes none

-- the first of the lines that are left, and those that follow it
pub record FirstLine (rest : List ℕ) (left : Option (List ℕ)) (next : NextLine) : Type 0 where
  pub bytes : List ℕ
  pub no_feed : HasNoFeed bytes
  pub is : IsLine bytes next.line
  pub later : List ℕ
  pub left_is : left ≡ Some later
  pub others : List (List ℕ)
  pub lines : lines_of_dialogue rest ≡ bytes ∷ others
  pub last : next.is_last ≡ true → others ≡ []
  pub more : next.is_last ≡ false → (others ≡ lines_of_dialogue later) × (rest ≡ bytes ++ 10 ∷ later)

first_of : (rest bytes : List ℕ) (left : Option (List ℕ)) (line : Line) (is_last : Bool) → HasNoFeed bytes → IsLine bytes line
    → Consumes (Some rest) left (taken_of is_last bytes) → (is_last ≡ true → IsAtEnd left)
    → FirstLine rest left (record { line = line; is_last = is_last })
first_of rest bytes None line is_last none is taken ended = absurd taken
first_of rest bytes (Some later) line true none is taken ended =
    let all : rest ≡ bytes = taken ∙ ap (λ l. bytes ++ l) (ended refl) ∙ append-nil bytes in
    record {
      bytes = bytes;
      no_feed = none;
      is = is;
      later = later;
      left_is = refl;
      others = [];
      lines = ap lines_of_dialogue all ∙ one_line bytes none;
      last = λ _. refl;
      more = λ bad. cc;
    }
first_of rest bytes (Some later) line false none is taken ended =
    let all : rest ≡ bytes ++ 10 ∷ later = taken ∙ append_assoc bytes (10 ∷ []) later in
    record {
      bytes = bytes;
      no_feed = none;
      is = is;
      later = later;
      left_is = refl;
      others = lines_of_dialogue later;
      lines = ap lines_of_dialogue all ∙ line_first bytes later none;
      last = λ bad. cc;
      more = λ _. (refl, all);
    }

-- what a read of the next line gives is the first of the lines that are left
pub first_line : (rest : List ℕ) (left now : Option (List ℕ)) (next : NextLine) → left ≡ Some rest → IsNext left now next
    → FirstLine rest now next
first_line rest left now next is found =
    first_of rest found.bytes now next.line next.is_last found.no_feed found.line
    (rw is at found.taken) found.ended
