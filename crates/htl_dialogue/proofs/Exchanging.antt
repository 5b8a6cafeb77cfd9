-- Lines so far got their replies and the speaker their notes on them, and then one line more did.
use Rattle.std.proofs.Common.{◌≡◌, ◌∙◌, ℕ, Bool, true, false, List, [], ◌∷◌, ◌++◌, None, refl, sym, subst, ap, append_assoc}
use Rattle.std.specs.Io.KnownBytes.{Appends}
use Rattle.std.specs.List.{list_any}
use Rattle.std.specs.Option.{option_or}
use Rattle.std.specs.Prelude.{◌||◌, Option}
use Rattle.std.proofs.KnownBytes.{Appends-nil, Appends-trans}
use Rattle.std.proofs.lemmas.List.{append-nil}
use Rattle.std.proofs.lemmas.List.Folds.{list_any-append}
use Rattle.htl_dialogue.specs.Dialogues.{Answers, AreExchanges, IsExchange, IsReplied, is_wrong}
use Rattle.htl_dialogue.specs.Notes.{IsFaultOf, OwnNote, after_notes, first_fault}
use Rattle.htl_dialogue.specs.Replying.{IsSaidFault, KeepsFault, Replies}
use Rattle.htl_dialogue.specs.Sayings.{Turn, saying, saying_in}
use Rattle.htl_dialogue.specs.declared.dialogue.Conversed.{Conversed}
use Rattle.htl_dialogue.specs.declared.note.Note.TheVariants as hear
use Rattle.htl_dialogue.specs.declared.saying.Said.{Said}
use Rattle.htl_dialogue.specs.declared.saying.Said.TheVariants as said
use Rattle.htl_dialogue.proofs.Noting.{first_fault-append, line_fault, line_more}

abbrev pub line_is_wrong : Bool → Turn → Bool
line_is_wrong forgets line = is_wrong (saying_in forgets line)

-- Lines got their replies and the speaker their notes, and this is said of them.
pub record AreReplied {S Speaker : Type 0} (answers : Answers S) (wanted : Bool) (told : Speaker → OwnNote → Speaker) (initial : S)
    (old : Option (List ℕ)) (speaker : Speaker) (lines : List Turn) (state : S) (new : Option (List ℕ)) (now : Speaker) (conversed : Conversed)
    : Type 0 where
  pub replies : List ℕ
  pub notes : List OwnNote
  pub exchanged : AreExchanges answers wanted initial lines state replies notes
  pub written : Appends old new replies
  pub heard : now ≡ after_notes told speaker notes
  pub any : conversed.has_wrong ≡ list_any (line_is_wrong answers.forgets) lines
  pub first : conversed.first_fault ≡ first_fault notes

-- One line more is said, awaited and replied to, with what is said of all lines then.
pub record IsNextReply {S Speaker : Type 0} (answers : Answers S) (wanted : Bool) (told : Speaker → OwnNote → Speaker) (of : Said) (before after : S)
    (old new : Option (List ℕ)) (speaker heard : Speaker) (so_far conversed : Conversed) : Type 0 where
  pub waiting : Speaker
  pub waited : waiting ≡ told speaker hear.Awaits
  pub line : Conversed
  pub replies : Replies answers wanted of before after old new told waiting heard line
  pub wrong : conversed.has_wrong ≡ (so_far.has_wrong || line.has_wrong)
  pub first : conversed.first_fault ≡ option_or so_far.first_fault line.first_fault

module _ {S : Type 0} (answers : Answers S) where
  -- the fault that is said of a line is the line's
  fault_is_of_line : (line : Turn) (of : Said) (before after : S) (reply : List ℕ) (early : List OwnNote)
      → KeepsFault answers.forgets line of → IsReplied answers (IsSaidFault of) before (saying of) after reply early
      → IsReplied answers (IsFaultOf answers.forgets line) before (saying of) after reply early
  fault_is_of_line line said.Nothing before after reply early keeps replied = replied
  fault_is_of_line line said.Quits before after reply early keeps replied = replied
  fault_is_of_line line (said.Asks job) before after reply early keeps replied = replied
  fault_is_of_line line (said.Reads files) before after reply early keeps replied = replied
  fault_is_of_line line (said.Uses process) before after reply early keeps replied = replied
  fault_is_of_line line (said.Merges name) before after reply early keeps replied = replied
  fault_is_of_line line (said.Saves name) before after reply early keeps replied = replied
  fault_is_of_line line (said.Wrong kept) before after reply early keeps replied =
      (replied.0, replied.1, (replied.2.0, subst (IsFaultOf answers.forgets line) (sym (replied.2.1)) keeps, replied.2.2))

  -- what was said of a line got its reply, so the line did
  pub reply_is_of_line : (line : Turn) (of : Said) (before after : S) (reply : List ℕ) (early : List OwnNote)
      → saying of ≡ saying_in answers.forgets line → KeepsFault answers.forgets line of
      → IsReplied answers (IsSaidFault of) before (saying of) after reply early
      → IsReplied answers (IsFaultOf answers.forgets line) before (saying_in answers.forgets line) after reply early
  reply_is_of_line line of before after reply early same keeps replied =
      rw (← same) (fault_is_of_line line of before after reply early keeps replied)

  -- an exchange after others
  exchanges_more : (wanted : Bool) (initial before after : S) (lines : List Turn) (line : Turn) (replies reply : List ℕ)
      (notes own : List OwnNote) → AreExchanges answers wanted initial lines before replies notes
      → IsExchange answers wanted before line after reply own
      → AreExchanges answers wanted initial (lines ++ line ∷ []) after (replies ++ reply) (notes ++ own)
  exchanges_more wanted initial before after [] line replies reply notes own none is = (
    after,
    reply,
    [],
    own,
    [],
    rw (none.0) at is,
    (refl, refl, refl),
    rw (none.1) (sym (append-nil reply)),
    rw (none.2) (sym (append-nil own)),
  )
  exchanges_more wanted initial before after (first ∷ more) line replies reply notes own are is = (
    are.0,
    are.1,
    are.2 ++ reply,
    are.3,
    are.4 ++ own,
    are.5,
    exchanges_more wanted are.0 before after more line are.2 reply are.4 own are.6 is,
    ap (λ l. l ++ reply) are.7 ∙ append_assoc are.1 are.2 reply,
    ap (λ l. l ++ own) are.8 ∙ append_assoc are.3 are.4 own,
  )

-- whether one of the lines is wrong, with one line more
wrong_more : (is_such : Turn → Bool) (lines : List Turn) (line : Turn) (has_wrong wrong : Bool) → has_wrong ≡ list_any is_such lines
    → wrong ≡ is_such line → (has_wrong || wrong) ≡ list_any is_such (lines ++ line ∷ [])
wrong_more is_such lines line has_wrong wrong any is =
    rw (any, is) (sym (list_any-append is_such lines (line ∷ []) ∙ ap (λ b. list_any is_such lines || b) (only (is_such line))))
  where
    only : (b : Bool) → (b || false) ≡ b
    only true = refl
    only false = refl

module _ {S Speaker : Type 0} {answers : Answers S} {wanted : Bool} {told : Speaker → OwnNote → Speaker} {initial : S} {old : Option (List ℕ)}
    {speaker : Speaker} where
  -- no line came yet
  pub none_replied : (conversed : Conversed) → conversed.has_wrong ≡ false → conversed.first_fault ≡ None
      → AreReplied answers wanted told initial old speaker [] initial old speaker conversed
  none_replied conversed right fine = record {
    replies = [];
    notes = [];
    exchanged = (refl, refl, refl);
    written = Appends-nil old;
    heard = refl;
    any = right;
    first = fine;
  }

  -- one line more
  pub one_replied : {lines : List Turn} {before after : S} {mid_out new : Option (List ℕ)} {now end : Speaker}
      {so_far conversed : Conversed} {of : Said} (line : Turn)
      → AreReplied answers wanted told initial old speaker lines before mid_out now so_far
      → IsNextReply answers wanted told of before after mid_out new now end so_far conversed
      → saying of ≡ saying_in answers.forgets line → KeepsFault answers.forgets line of
      → AreReplied answers wanted told initial old speaker (lines ++ line ∷ []) after new end conversed
  one_replied {lines = lines} {before = before} {after = after} {mid_out = mid_out} {new = new} {now = now} {end = end}
      {so_far = so_far} {conversed = conversed} {of = of} line are next same keeps =
      let reply = next.replies in
      let own = hear.Awaits ∷ (reply.early ++ reply.late) in
      let told_late = rw same at reply.told_late in
      let own_fault : first_fault own ≡ first_fault reply.early =
      line_fault answers.has_table (answers.has_outcome before) (answers.has_absence before) wanted (saying_in answers.forgets line)
      reply.early reply.late told_late in
      let all_faults : first_fault (are.notes ++ own) ≡ option_or (first_fault are.notes) (first_fault own) =
      first_fault-append are.notes own in
      record {
        replies = are.replies ++ reply.reply;
        notes = are.notes ++ own;
        exchanged = exchanges_more answers wanted initial before after lines line are.replies reply.reply are.notes own are.exchanged (record {
          early = reply.early;
          late = reply.late;
          replied = reply_is_of_line answers line of before after reply.reply reply.early same keeps reply.replied;
          told = told_late;
          all = refl;
        });
        written = Appends-trans old mid_out new are.replies reply.reply are.written reply.written;
        heard = line_more told speaker now next.waiting end are.notes (reply.early ++ reply.late) are.heard next.waited reply.all;
        any = next.wrong ∙ wrong_more (line_is_wrong answers.forgets) lines line so_far.has_wrong next.line.has_wrong are.any
            (reply.wrong ∙ ap is_wrong same);
        first = next.first ∙ ap (λ o. option_or o next.line.first_fault) are.first
            ∙ ap (λ o. option_or (first_fault are.notes) o) (reply.first ∙ sym own_fault) ∙ sym all_faults;
      }
