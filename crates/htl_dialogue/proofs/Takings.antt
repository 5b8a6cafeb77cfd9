-- What a line has taken of a text grows from one read to the next, up to its line feed or to the end.
use Rattle.std.proofs.Common.{◌≡◌, ℕ, Bool, true, false, List, [], ◌∷◌, ◌++◌, None, Some, length, refl, sym, ◌∙◌}
use Rattle.std.proofs.Common.{arith, append_assoc}
use Rattle.std.specs.Prelude.{Option}
use Rattle.std.specs.Io.KnownBytes.{Consumes, IsAtEnd, Keeps, prepend_known}
use Rattle.std.proofs.KnownBytes.{Consumes-kept, Consumes-trans, prepend_known-nil}
use Rattle.std.proofs.lemmas.List.Elements.{All-append}
use Rattle.htl_dialogue.specs.Lines.{is_feed}
use Rattle.htl_dialogue.specs.Reading.{HasNoFeed, IsBegun, IsLine, IsNext, Moves}
use Rattle.htl_dialogue.specs.declared.line.Line.{Line}

-- A line's bytes were taken of a text of which this is left.
pub record SoFar (first left : Option (List ℕ)) (line : Line) : Type 0 where
  pub bytes : List ℕ
  pub no_feed : HasNoFeed bytes
  pub is : IsLine bytes line
  pub taken : Consumes first left bytes

no_feeds : (xs ys : List ℕ) → HasNoFeed xs → HasNoFeed ys → HasNoFeed (xs ++ ys)
no_feeds xs ys a b = All-append (λ x. is_feed x ≡ false) xs ys a b

-- what moves from the held bytes to the line is taken of the text
moved_feed : (piece held : List ℕ) (rest : Option (List ℕ))
    → Consumes (prepend_known (piece ++ 10 ∷ held) rest) (prepend_known held rest) (piece ++ 10 ∷ [])
moved_feed piece held None = tt
moved_feed piece held (Some xs) = append_assoc piece (10 ∷ held) xs ∙ sym (append_assoc piece (10 ∷ []) (held ++ xs))

moved_all : (piece : List ℕ) (rest : Option (List ℕ)) → Consumes (prepend_known (piece ++ []) rest) rest piece
moved_all piece None = tt
moved_all piece (Some xs) = append_assoc piece [] xs

-- what a read gave is held, and is left as before
refilled : (rest after : Option (List ℕ)) (held : List ℕ) → Consumes rest after held → Keeps rest (prepend_known held after)
refilled None after held taken = tt
refilled (Some xs) None held taken = absurd taken
refilled (Some xs) (Some ys) held taken = sym taken

-- where the held bytes have a line feed, those before it end the line
pub feed_found : (first rest : Option (List ℕ)) (held new : List ℕ) (line after : Line) (found : Bool)
    → SoFar first (prepend_known held rest) line → Moves held new line after found → found ≡ true
    → IsNext first (prepend_known new rest) (record { line = after; is_last = false })
feed_found first rest held new line after false so_far moves is = cc
feed_found first rest held new line after true so_far moves is =
    let bytes = so_far.bytes in
    let piece = moves.piece in
    let part = moved_feed piece new rest in
    record {
      bytes = bytes ++ piece;
      no_feed = no_feeds bytes piece so_far.no_feed moves.no_feed;
      line = moves.grown bytes so_far.is;
      taken = rw (append_assoc bytes piece (10 ∷ [])) (Consumes-trans first (prepend_known held rest) (prepend_known new rest) bytes
          (piece ++ 10 ∷ []) so_far.taken (rw (moves.held) part));
      ended = λ bad. cc;
    }

-- all held bytes are the line's
pub all_moved : (first rest : Option (List ℕ)) (held new : List ℕ) (line after : Line) (found : Bool)
    → SoFar first (prepend_known held rest) line → Moves held new line after found → found ≡ false
    → SoFar first rest after
all_moved first rest held new line after true so_far moves is = cc
all_moved first rest held new line after false so_far moves is =
    let bytes = so_far.bytes in
    let piece = moves.piece in
    record {
      bytes = bytes ++ piece;
      no_feed = no_feeds bytes piece so_far.no_feed moves.no_feed;
      is = moves.grown bytes so_far.is;
      taken = Consumes-trans first (prepend_known held rest) rest bytes piece so_far.taken (rw (moves.held) (moved_all piece rest));
    }

-- where a read gives nothing, the line is the last
pub last_found : (first rest after : Option (List ℕ)) (held : List ℕ) (line : Line) (count : ℕ) → SoFar first rest line
    → count ≡ length held → Consumes rest after held → (count ≡ 0 → IsAtEnd after) → count ≡ 0
    → IsNext first (prepend_known held after) (record { line = line; is_last = true })
last_found first rest after (x ∷ xs) line count so_far is taken ended none = cc
last_found first rest after [] line count so_far is taken ended none = record {
  bytes = so_far.bytes;
  no_feed = so_far.no_feed;
  line = so_far.is;
  taken = Consumes-kept first rest (prepend_known [] after) so_far.bytes so_far.taken (refilled rest after [] taken);
  ended = λ last. rw (prepend_known-nil after) (ended none);
}

-- a read leaves the line as it is, with the read bytes held
pub goes_on : (first rest after : Option (List ℕ)) (held : List ℕ) (line : Line) → SoFar first rest line → Consumes rest after held
    → SoFar first (prepend_known held after) line
goes_on first rest after held line so_far taken = record {
  bytes = so_far.bytes;
  no_feed = so_far.no_feed;
  is = so_far.is;
  taken = Consumes-kept first rest (prepend_known held after) so_far.bytes so_far.taken (refilled rest after held taken);
}

-- a line for which bytes are held or read so far is one that was begun
pub begun : (first left : Option (List ℕ)) (line : Line) → SoFar first left line → IsBegun first left
begun first left line so_far = record { bytes = so_far.bytes; no_feed = so_far.no_feed; taken = so_far.taken }

-- a line is one that was begun, too, where a read failed and nothing is held
pub begun_still : (first rest after : Option (List ℕ)) (held : List ℕ) (line : Line) → SoFar first rest line
    → held ≡ [] → Keeps rest after → IsBegun first (prepend_known held after)
begun_still first rest after held line so_far none keeps = record {
  bytes = so_far.bytes;
  no_feed = so_far.no_feed;
  taken = rw (none, prepend_known-nil after) (Consumes-kept first rest after so_far.bytes so_far.taken keeps);
}

-- nothing is taken yet
pub nothing_taken : (left : Option (List ℕ)) (line : Line) → IsLine [] line → SoFar left left line
nothing_taken left line is = record {
  bytes = [];
  no_feed = λ k d below. absurd (omega (arith, below));
  is = is;
  taken = keeps left;
}
  where
    keeps : (left : Option (List ℕ)) → Consumes left left []
    keeps None = tt
    keeps (Some xs) = refl
