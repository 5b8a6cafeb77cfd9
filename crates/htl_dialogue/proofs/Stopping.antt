-- A dialogue that ends before its lines do ends for a fault, and so far its lines got their replies.
use Rattle.std.proofs.Common.{◌≡◌, ◌≤◌, ◌∙◌, ℕ, Bool, true, false, List, [], ◌∷◌, ◌++◌, None, Some, length, take, refl, sym, ap}
use Rattle.std.proofs.Common.{append_assoc, arith, inl, inr, length-append}
use Rattle.std.specs.Prelude.{IfSome, Option}
use Rattle.std.specs.Io.KnownBytes.{Consumes}
use Rattle.std.proofs.KnownBytes.{Appends-trans}
use Rattle.std.proofs.lemmas.List.{length-map}
use Rattle.htl_device.specs.declared.whole.ReadFault.{ReadFault}
use Rattle.htl_device.specs.declared.whole.ReadFault.TheVariants as reads
use Rattle.htl_dialogue.specs.Dialogues.{Answers, AreRead, Gets, GotAt, DialogueStops, asked_lines, before_end, is_end}
use Rattle.htl_dialogue.specs.Lines.{lines_of_dialogue}
use Rattle.htl_dialogue.specs.Notes.{OwnNote}
use Rattle.htl_dialogue.specs.Reading.{IsBegun}
use Rattle.htl_dialogue.specs.Replying.{IsRefusedReply, of_read}
use Rattle.htl_dialogue.specs.Sayings.{Turn, lines_in, saying, saying_of, turn, turns_of, used}
use Rattle.htl_dialogue.specs.declared.dialogue.Conversed.{Conversed}
use Rattle.htl_dialogue.specs.declared.dialogue.DialogueFault.{DialogueFault}
use Rattle.htl_dialogue.specs.declared.dialogue.DialogueFault.TheVariants.{Questions, Write, NoMemory}
use Rattle.htl_dialogue.specs.declared.note.Note.TheVariants as hear
use Rattle.htl_dialogue.specs.declared.reading.NextLine.{NextLine}
use Rattle.htl_dialogue.specs.declared.saying.Said.{Said}
use Rattle.htl_dialogue.proofs.Conversing.{Progress, Takes, asked_one, line_is_end, turns_left}
use Rattle.htl_dialogue.proofs.Exchanging.{reply_is_of_line}
use Rattle.htl_dialogue.proofs.Hearing.{end_of_line}
use Rattle.htl_dialogue.proofs.NextLines.{first_line, one_line}
use Rattle.htl_dialogue.proofs.Noting.{line_more, one_more}

-- memory was refused, or a read failed
abbrev pub IsBeforeReply : DialogueFault → Type 0
IsBeforeReply Write = ⊥
IsBeforeReply Questions = Unit {0}
IsBeforeReply NoMemory = Unit {0}

-- a fault of a read comes before the reply
pub before_read : (fault : ReadFault) → IsBeforeReply (of_read fault)
before_read reads.Failed = tt
before_read reads.NoMemory = tt

-- a fault of a read that is reported as one of the questions is a failed read
pub read_failed : (fault : ReadFault) → of_read fault ≡ Questions → fault ≡ reads.Failed
read_failed reads.Failed is = refl
read_failed reads.NoMemory is = cc

module _ {S Speaker : Type 0} {answers : Answers S} {wanted : Bool} {told : Speaker → OwnNote → Speaker} {initial : S} {text : List ℕ}
    {old : Option (List ℕ)} {speaker : Speaker} {process : Option ℕ} {left : Option (List ℕ)} {state : S} {new : Option (List ℕ)}
    {now : Speaker} {conversed : Conversed} {count : ℕ}
    (so_far : Progress answers wanted told initial text old speaker process left state new now conversed count) where
  -- the lines that are left
  cut_at : (more : List (List ℕ)) → lines_of_dialogue so_far.rest ≡ more
      → asked_lines text ≡ so_far.lines ++ before_end (turns_of process more)
  cut_at more is = ap before_end (turns_left so_far more is) ∙ so_far.asks (turns_of process more)

  -- where a line was begun, all lines before it were read
  pub all_read : (after : Option (List ℕ)) → IsBegun left after → AreRead text after so_far.lines
  all_read after begun = (
    so_far.read ++ begun.bytes,
    begun.bytes,
    taken after (rw (so_far.left_is) at begun.taken),
    so_far.reads begun.bytes ∙ ap (λ l. lines_in so_far.lines ++ l) (one_line begun.bytes begun.no_feed),
  )
    where
      taken : (after : Option (List ℕ)) → Consumes (Some so_far.rest) after begun.bytes
          → Consumes (Some text) after (so_far.read ++ begun.bytes)
      taken None is = absurd is
      taken (Some later) is = so_far.is ∙ ap (λ l. so_far.read ++ l) is ∙ sym (append_assoc so_far.read begun.bytes later)

  -- the lines so far are all that got their replies
  stops_here : (after : Option (List ℕ)) (mid : Speaker) (failed : Bool) (fault : DialogueFault)
      → GotAt answers state failed (Gets old new told speaker mid) fault
      (before_end (turns_of process (lines_of_dialogue so_far.rest))) so_far.are.replies so_far.are.notes
      → (failed ≡ true → AreRead text after so_far.lines)
      → DialogueStops answers wanted initial text after failed (Gets old new told speaker mid) fault
  stops_here after mid failed fault got in_time = record {
    earlier = so_far.lines;
    later = before_end (turns_of process (lines_of_dialogue so_far.rest));
    cut = cut_at (lines_of_dialogue so_far.rest) refl;
    state = state;
    replies = so_far.are.replies;
    notes = so_far.are.notes;
    exchanged = so_far.are.exchanged;
    got = got;
    in_time = in_time;
  }

  -- a line was awaited
  pub stopped : (after : Option (List ℕ)) (mid : Speaker) (failed : Bool) (fault : DialogueFault) → mid ≡ told now hear.Awaits
      → IsBeforeReply fault → (failed ≡ true → AreRead text after so_far.lines)
      → DialogueStops answers wanted initial text after failed (Gets old new told speaker mid) fault
  stopped after mid failed fault waited is in_time = stops_here after mid failed fault (went fault is) in_time
    where
      gets : Gets old new told speaker mid so_far.are.replies (so_far.are.notes ++ hear.Awaits ∷ [])
      gets = (so_far.are.written, one_more told speaker now mid so_far.are.notes so_far.are.heard waited)

      went : (fault : DialogueFault) → IsBeforeReply fault → GotAt answers state failed (Gets old new told speaker mid) fault
          (before_end (turns_of process (lines_of_dialogue so_far.rest))) so_far.are.replies so_far.are.notes
      went Write is = absurd is
      went Questions is = inl gets
      went NoMemory is = inl gets

  -- or none was
  pub stopped_between : (after : Option (List ℕ)) (failed : Bool) (fault : DialogueFault) → IsBeforeReply fault → failed ≡ false
      → DialogueStops answers wanted initial text after failed (Gets old new told speaker now) fault
  stopped_between after failed fault is fine = stops_here after now failed fault (went fault is) (λ bad. cc)
    where
      gets : Gets old new told speaker now so_far.are.replies so_far.are.notes
      gets = (so_far.are.written, so_far.are.heard)

      went : (fault : DialogueFault) → IsBeforeReply fault → GotAt answers state failed (Gets old new told speaker now) fault
          (before_end (turns_of process (lines_of_dialogue so_far.rest))) so_far.are.replies so_far.are.notes
      went Write is = absurd is
      went Questions is = inr (fine, gets)
      went NoMemory is = inr (fine, gets)

  -- the reply to a line could not be written, or there was none
  pub unreplied : {rest : Option (List ℕ)} {next : NextLine} {of : Said} (after end_out : Option (List ℕ)) (mid end : Speaker)
      (failed write_failed : Bool) (fault : DialogueFault) → mid ≡ told now hear.Awaits → Takes answers.forgets process left rest next of
      → is_end (saying of) ≡ false
      → IsRefusedReply answers of state new end_out write_failed told mid end fault → failed ≡ false
      → DialogueStops answers wanted initial text after failed (Gets old end_out told speaker end) fault
  unreplied after end_out mid end failed write_failed Questions waited line goes_on refused fine = absurd refused
  unreplied after end_out mid end failed write_failed NoMemory waited line goes_on refused fine =
      rw (refused.0, refused.2) (stopped after mid failed NoMemory waited tt (λ bad. cc))
  unreplied {rest = rest} {next = next} {of = of} after end_out mid end failed write_failed Write waited line goes_on refused fine =
      let first = first_line so_far.rest left rest next so_far.left_is line.found in
      let this : Turn = turn process first.bytes in
      let others = turns_of (used process (saying_of this)) first.others in
      let same = line.says first.bytes first.is in
      let not_end : line_is_end this ≡ false = end_of_line answers.forgets this of same ∙ goes_on in
      let part = refused.1 in
      let written = part.written in
      record {
        earlier = so_far.lines;
        later = this ∷ before_end others;
        cut = cut_at (first.bytes ∷ first.others) first.lines ∙ ap (λ l. so_far.lines ++ l) (asked_one this others not_end);
        state = state;
        replies = so_far.are.replies;
        notes = so_far.are.notes;
        exchanged = so_far.are.exchanged;
        got = (
          part.after,
          part.reply,
          written.0,
          part.early,
          reply_is_of_line answers this of state part.after part.reply part.early same (line.keeps first.bytes first.is) part.replied,
          (
            Appends-trans old new end_out so_far.are.replies (take written.0 part.reply) so_far.are.written written.1,
            line_more told speaker now mid end so_far.are.notes part.early so_far.are.heard waited part.all,
          ),
        );
        in_time = λ bad. cc;
      }

-- ---- too many lines

-- a text has the lines that were read of it
pub too_many : {S Speaker : Type 0} {answers : Answers S} {wanted : Bool} {told : Speaker → OwnNote → Speaker} {initial : S} {old : Option (List ℕ)}
    {speaker : Speaker} {process : Option ℕ} {left : Option (List ℕ)} {state : S} {new : Option (List ℕ)} {now : Speaker}
    {conversed : Conversed} {count : ℕ} (known : Option (List ℕ)) (most : ℕ)
    → ((text : List ℕ) → known ≡ Some text → Progress answers wanted told initial text old speaker process left state new now conversed count)
    → most ≤ count → IfSome known (λ text. most ≤ length (lines_of_dialogue text))
too_many None most so_far many = tt
too_many (Some text) most so_far many =
    let here = so_far text refl in
    let all = ap length (ap lines_of_dialogue here.is ∙ here.reads here.rest) in
    omega (
      arith,
      many,
      here.each,
      all,
      length-append (lines_in here.lines) (lines_of_dialogue here.rest),
      length-map here.lines (λ (t : Turn). t.line),
    )
