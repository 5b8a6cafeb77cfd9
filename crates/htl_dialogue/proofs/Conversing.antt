-- A dialogue has come so far: these lines got their replies and their notes, and those are left.
use Rattle.std.proofs.Common.{◌≡◌, ◌+◌, ◌∙◌, ℕ, Bool, true, false, List, [], ◌∷◌, ◌++◌, None, Some, length, refl, sym, ap, arith}
use Rattle.std.proofs.Common.{append_assoc}
use Rattle.std.specs.Prelude.{Option, if◌then◌else◌}
use Rattle.std.specs.List.{list_any}
use Rattle.std.proofs.lemmas.List.{append-nil, length_push}
use Rattle.htl_dialogue.specs.Dialogues.{Answers, Converses, Gets, asked_lines, before_end, is_end, last_wait, turns_in}
use Rattle.htl_dialogue.specs.Lines.{lines_of_dialogue}
use Rattle.htl_dialogue.specs.Notes.{OwnNote}
use Rattle.htl_dialogue.specs.Reading.{IsLine, IsNext}
use Rattle.htl_dialogue.specs.Replying.{KeepsFault}
use Rattle.htl_dialogue.specs.Sayings.{Turn, lines_in, saying, saying_in, saying_of, turn, turns_of, used}
use Rattle.htl_dialogue.specs.declared.dialogue.Conversed.{Conversed}
use Rattle.htl_dialogue.specs.declared.note.Note.TheVariants as hear
use Rattle.htl_dialogue.specs.declared.reading.NextLine.{NextLine}
use Rattle.htl_dialogue.specs.declared.saying.Said.{Said}
use Rattle.htl_dialogue.proofs.Exchanging.{AreReplied, IsNextReply, none_replied, one_replied}
use Rattle.htl_dialogue.proofs.Hearing.{end_of_line, use_of_line}
use Rattle.htl_dialogue.proofs.NextLines.{first_line, line_first}
use Rattle.htl_dialogue.proofs.Noting.{one_more}
use Rattle.htl_dialogue.proofs.Turning.{lines_in-more, turns_more}

-- the line, as it is split into arguments, ends the dialogue
abbrev pub line_is_end : Turn → Bool
line_is_end line = is_end (saying_of line)

-- So many lines were read of a text of which this is left, and got their replies and their notes. None ends the dialogue. This process is
-- used then.
pub record Progress {S Speaker : Type 0} (answers : Answers S) (wanted : Bool) (told : Speaker → OwnNote → Speaker) (initial : S) (text : List ℕ)
    (old : Option (List ℕ)) (speaker : Speaker) (process : Option ℕ) (left : Option (List ℕ)) (state : S) (new : Option (List ℕ))
    (now : Speaker) (conversed : Conversed) (count : ℕ) : Type 0 where
  pub read : List ℕ
  pub rest : List ℕ
  pub left_is : left ≡ Some rest
  pub is : text ≡ read ++ rest
  pub lines : List Turn
  pub reads : (more : List ℕ) → lines_of_dialogue (read ++ more) ≡ lines_in lines ++ lines_of_dialogue more
  pub turns : (more : List (List ℕ)) → turns_of None (lines_in lines ++ more) ≡ lines ++ turns_of process more
  pub asks : (more : List Turn) → before_end (lines ++ more) ≡ lines ++ before_end more
  pub goes_on : (more : List Turn) → list_any line_is_end (lines ++ more) ≡ list_any line_is_end more
  pub are : AreReplied answers wanted told initial old speaker lines state new now conversed
  pub each : length lines ≡ count

-- A line was read where this process is used, and this is said of it in a dialogue that forgets events or keeps them.
pub record Takes (forgets : Bool) (process : Option ℕ) (left now : Option (List ℕ)) (next : NextLine) (of : Said) : Type 0 where
  pub found : IsNext left now next
  pub says : (bytes : List ℕ) → IsLine bytes next.line → saying of ≡ saying_in forgets (turn process bytes)
  pub keeps : (bytes : List ℕ) → IsLine bytes next.line → KeepsFault forgets (turn process bytes) of

-- a line that ends the dialogue, and one that doesn't
asked_none : (line : Turn) (more : List Turn) → line_is_end line ≡ true → before_end (line ∷ more) ≡ []
asked_none line more ends = rw ends refl

-- a line that doesn't end the dialogue is one of those that are asked
pub asked_one : (line : Turn) (more : List Turn) → line_is_end line ≡ false → before_end (line ∷ more) ≡ line ∷ before_end more
asked_one line more goes_on = rw goes_on refl

waits : (text : List ℕ) (b : Bool) (wait : List OwnNote) → list_any line_is_end (turns_in text) ≡ b
    → (if b then hear.Awaits ∷ [] else []) ≡ wait → last_wait text ≡ wait
waits text b wait is of = rw is of

any_first : (line : Turn) (more : List Turn) → line_is_end line ≡ true → list_any line_is_end (line ∷ more) ≡ true
any_first line more ends = rw ends refl

any_later : (line : Turn) (more : List Turn) → line_is_end line ≡ false
    → list_any line_is_end (line ∷ more) ≡ list_any line_is_end more
any_later line more goes_on = rw goes_on refl

module _ {S Speaker : Type 0} {answers : Answers S} {wanted : Bool} {told : Speaker → OwnNote → Speaker} {initial : S} {text : List ℕ}
    {old : Option (List ℕ)} {speaker : Speaker} where
  -- nothing was read
  pub begins : {left : Option (List ℕ)} (conversed : Conversed) → left ≡ Some text → conversed.has_wrong ≡ false
      → conversed.first_fault ≡ None → Progress answers wanted told initial text old speaker None left initial old speaker conversed 0
  begins conversed is right fine = record {
    read = [];
    rest = text;
    left_is = is;
    is = refl;
    lines = [];
    reads = λ more. refl;
    turns = λ more. refl;
    asks = λ more. refl;
    goes_on = λ more. refl;
    are = none_replied conversed right fine;
    each = refl;
  }

  -- the lines of the text where they stand, by those that are left
  pub turns_left : {process : Option ℕ} {left new : Option (List ℕ)} {state : S} {now : Speaker} {conversed : Conversed} {count : ℕ}
      (so_far : Progress answers wanted told initial text old speaker process left state new now conversed count) (more : List (List ℕ))
      → lines_of_dialogue so_far.rest ≡ more → turns_in text ≡ so_far.lines ++ turns_of process more
  turns_left {process = process} so_far more is =
      ap (turns_of None) (ap lines_of_dialogue so_far.is ∙ so_far.reads so_far.rest ∙ ap (λ l. lines_in so_far.lines ++ l) is)
      ∙ so_far.turns more

  -- the line ends the dialogue
  pub ended : {process : Option ℕ} {left after new : Option (List ℕ)} {state : S} {now mid : Speaker} {conversed : Conversed} {count : ℕ}
      {next : NextLine} {of : Said} → Progress answers wanted told initial text old speaker process left state new now conversed count
      → mid ≡ told now hear.Awaits → Takes answers.forgets process left after next of → is_end (saying of) ≡ true
      → Converses answers wanted initial text (Gets old new told speaker mid) conversed
  ended {process = process} {left = left} {after = after} {state = state} {now = now} {mid = mid} {next = next} {of = of} so_far waited line
      ends =
      let first = first_line so_far.rest left after next so_far.left_is line.found in
      let this : Turn = turn process first.bytes in
      let others = turns_of (used process (saying_of this)) first.others in
      let same = line.says first.bytes first.is in
      let is : line_is_end this ≡ true = end_of_line answers.forgets this of same ∙ ends in
      let lines : turns_in text ≡ so_far.lines ++ this ∷ others = turns_left so_far (first.bytes ∷ first.others) first.lines in
      let all : asked_lines text ≡ so_far.lines = ap before_end lines ∙ so_far.asks (this ∷ others)
      ∙ ap (λ l. so_far.lines ++ l) (asked_none this others is) ∙ append-nil so_far.lines in
      let wait : last_wait text ≡ hear.Awaits ∷ [] = waits text true (hear.Awaits ∷ []) (ap (list_any line_is_end) lines
      ∙ so_far.goes_on (this ∷ others) ∙ any_first this others is) refl in
      let are = so_far.are in
      record {
        after = state;
        replies = are.replies;
        notes = are.notes;
        exchanged = rw all (are.exchanged);
        got = (are.written, rw wait (one_more told speaker now mid are.notes are.heard waited));
        any = rw all (are.any);
        first = are.first;
      }

  -- the line got its reply and its notes, and is the last
  pub replied_last : {process : Option ℕ} {left rest mid_out new : Option (List ℕ)} {before after : S} {now end : Speaker}
      {conversed all : Conversed} {count : ℕ} {next : NextLine} {of : Said}
      → Progress answers wanted told initial text old speaker process left before mid_out now conversed count
      → Takes answers.forgets process left rest next of → is_end (saying of) ≡ false
      → IsNextReply answers wanted told of before after mid_out new now end conversed all → next.is_last ≡ true
      → Converses answers wanted initial text (Gets old new told speaker end) all
  replied_last {process = process} {left = left} {rest = rest} {after = after} {next = next} {of = of} so_far line goes_on reply last =
      let first = first_line so_far.rest left rest next so_far.left_is line.found in
      let this : Turn = turn process first.bytes in
      let same = line.says first.bytes first.is in
      let not_end : line_is_end this ≡ false = end_of_line answers.forgets this of same ∙ goes_on in
      let lines : turns_in text ≡ so_far.lines ++ this ∷ [] =
      turns_left so_far (first.bytes ∷ []) (first.lines ∙ ap (λ l. first.bytes ∷ l) (first.last last)) in
      let all : asked_lines text ≡ so_far.lines ++ this ∷ [] = ap before_end lines ∙ so_far.asks (this ∷ [])
      ∙ ap (λ l. so_far.lines ++ l) (asked_one this [] not_end) in
      let wait : last_wait text ≡ [] = waits text false [] (ap (list_any line_is_end) lines ∙ so_far.goes_on (this ∷ [])
      ∙ any_later this [] not_end) refl in
      let are = one_replied this so_far.are reply same (line.keeps first.bytes first.is) in
      record {
        after = after;
        replies = are.replies;
        notes = are.notes;
        exchanged = rw all (are.exchanged);
        got = (are.written, rw (wait, append-nil are.notes) (are.heard));
        any = rw all (are.any);
        first = are.first;
      }

  -- or lines are left
  pub replied : {process process_then : Option ℕ} {left rest mid_out new : Option (List ℕ)} {before after : S} {now end : Speaker}
      {conversed all : Conversed} {count : ℕ} {next : NextLine} {of : Said}
      → Progress answers wanted told initial text old speaker process left before mid_out now conversed count
      → Takes answers.forgets process left rest next of → is_end (saying of) ≡ false → process_then ≡ used process (saying of)
      → IsNextReply answers wanted told of before after mid_out new now end conversed all → next.is_last ≡ false
      → Progress answers wanted told initial text old speaker process_then rest after new end all (count + 1)
  replied {process = process} {process_then = process_then} {left = left} {rest = rest} {next = next} {of = of} so_far line goes_on moved reply more =
      let first = first_line so_far.rest left rest next so_far.left_is line.found in
      let this : Turn = turn process first.bytes in
      let same = line.says first.bytes first.is in
      let not_end : line_is_end this ≡ false = end_of_line answers.forgets this of same ∙ goes_on in
      let later = first.more more in
      record {
        read = so_far.read ++ (first.bytes ++ 10 ∷ []);
        rest = first.later;
        left_is = first.left_is;
        is = so_far.is ∙ ap (λ l. so_far.read ++ l) (later.1 ∙ sym (append_assoc first.bytes (10 ∷ []) first.later))
            ∙ sym (append_assoc so_far.read (first.bytes ++ 10 ∷ []) first.later);
        lines = so_far.lines ++ this ∷ [];
        reads = λ text. ap lines_of_dialogue (append_assoc so_far.read (first.bytes ++ 10 ∷ []) text
            ∙ ap (λ l. so_far.read ++ l) (append_assoc first.bytes (10 ∷ []) text)) ∙ so_far.reads (first.bytes ++ 10 ∷ text)
            ∙ ap (λ l. lines_in so_far.lines ++ l) (line_first first.bytes text first.no_feed)
            ∙ sym (lines_in-more so_far.lines process first.bytes (lines_of_dialogue text));
        turns = turns_more so_far.lines process process_then first.bytes so_far.turns (moved ∙ use_of_line answers.forgets process this of same);
        asks = λ lines. ap before_end (append_assoc so_far.lines (this ∷ []) lines) ∙ so_far.asks (this ∷ lines)
            ∙ ap (λ l. so_far.lines ++ l) (asked_one this lines not_end)
            ∙ sym (append_assoc so_far.lines (this ∷ []) (before_end lines));
        goes_on = λ lines. ap (list_any line_is_end) (append_assoc so_far.lines (this ∷ []) lines)
            ∙ so_far.goes_on (this ∷ lines) ∙ any_later this lines not_end;
        are = one_replied this so_far.are reply same (line.keeps first.bytes first.is);
        each = omega (arith, so_far.each, length_push so_far.lines this);
      }
