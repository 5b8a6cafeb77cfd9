-- What is said of a dialogue with one who answers holds with another, whose states follow those of the first.
use Rattle.std.proofs.Common.{◌≡◌, ℕ, Bool, true, false, List, [], ◌∷◌, refl}
use Rattle.std.specs.Prelude.{Option, Result}
use Rattle.htl_command.specs.declared.fault.ParseFault.{ParseFault}
use Rattle.htl_command.specs.declared.question.Job.{Job}
use Rattle.htl_inputs.specs.declared.fault.RunFault.{RunFault}
use Rattle.htl_dialogue.specs.Dialogues.{Answers, AreExchanges, Converses, GotAt, IsReplied, DialogueStops, asked_lines}
use Rattle.htl_dialogue.specs.Notes.{AreTold, AreToldOf, IsFaultOf, OwnNote}
use Rattle.htl_dialogue.specs.Sayings.{Saying, Turn, asks, merges, nothing, quits, reads, saves, saying_in, uses, wrong}
use Rattle.htl_dialogue.specs.declared.dialogue.Conversed.{Conversed}
use Rattle.htl_dialogue.specs.declared.dialogue.DialogueFault.{DialogueFault}
use Rattle.htl_dialogue.specs.declared.dialogue.DialogueFault.TheVariants.{Questions, Write, NoMemory}
use Rattle.htl_main.specs.declared.loading.adding.Added.{Added}
use Rattle.htl_main.specs.declared.completed.Absence.{Absence}
use Rattle.htl_main.specs.declared.printing.AnswerText.{AnswerText}
use Rattle.htl_main.specs.declared.refused.Refused.{Refused}

-- The other answers what the first does, and reads files and merges states where the first does, with the same end, so that it follows; and
-- it saves what the first does. Both forget events, or keep them, and both have a table of symbols, or none.
module _ {A B : Type 0} (one : Answers A) (other : Answers B) (alike : one.forgets ≡ other.forgets)
    (same_table : one.has_table ≡ other.has_table) (Follows : A → B → Type 0)
    (outcome_too : (a : A) (b : B) (job : Job) (outcome : Result AnswerText RunFault) → Follows a b → one.has_outcome a job outcome
    → other.has_outcome b job outcome)
    (absence_too : (a : A) (b : B) (job : Job) (absence : Option Absence) → Follows a b → one.has_absence a job absence
    → other.has_absence b job absence)
    (reads_too : (a : A) (b : B) (files : List (List ℕ)) (after : A) (ended : Result Added Refused) → Follows a b
    → one.reads a files after ended → (there : B) × Follows after there × other.reads b files there ended)
    (merges_too : (a : A) (b : B) (name : List ℕ) (after : A) (ended : Result Added Refused) → Follows a b
    → one.merges a name after ended → (there : B) × Follows after there × other.merges b name there ended)
    (saves_too : (a : A) (b : B) (name : List ℕ) (ended : Result ℕ RunFault) → Follows a b → one.saves a name ended
    → other.saves b name ended) where
  replied_too : (IsWhy : ParseFault → Type 0) (a : A) (b : B) (said : Saying) (after : A) (reply : List ℕ) (notes : List OwnNote)
      → Follows a b → IsReplied one IsWhy a said after reply notes
      → (there : B) × Follows after there × IsReplied other IsWhy b said there reply notes
  replied_too IsWhy a b (asks job) after reply notes follows is =
      (b, rw (is.0) follows, (refl, is.1, outcome_too a b job is.1 follows is.2, is.3, is.4))
  replied_too IsWhy a b (reads files) after reply notes follows is =
      let then = reads_too a b files after is.0 follows is.1 in (then.0, then.1, (is.0, then.2, is.2, is.3))
  replied_too IsWhy a b (merges name) after reply notes follows is =
      let then = merges_too a b name after is.0 follows is.1 in (then.0, then.1, (is.0, then.2, is.2, is.3))
  replied_too IsWhy a b (saves name) after reply notes follows is =
      (b, rw (is.0) follows, (refl, is.1, saves_too a b name is.1 follows is.2, is.3, is.4))
  replied_too IsWhy a b wrong after reply notes follows is = (b, rw (is.0) follows, (refl, is.1, is.2))
  replied_too IsWhy a b (uses process) after reply notes follows is = (b, rw (is.0) follows, (refl, is.1, is.2))
  replied_too IsWhy a b nothing after reply notes follows is = (b, rw (is.0) follows, (refl, is.1, is.2))
  replied_too IsWhy a b quits after reply notes follows is = (b, rw (is.0) follows, (refl, is.1, is.2))

  told_of_too : (wanted : Bool) (a : A) (b : B) (job : Job) (notes : List OwnNote) → Follows a b
      → AreToldOf one.has_table (one.has_outcome a) (one.has_absence a) wanted job notes
      → AreToldOf other.has_table (other.has_outcome b) (other.has_absence b) wanted job notes
  told_of_too false a b job notes follows is = is
  told_of_too true a b job notes follows is =
      (is.0, outcome_too a b job is.0 follows is.1, is.2, absence_too a b job is.2 follows is.3, rw (← same_table) is.4)

  told_too : (wanted : Bool) (a : A) (b : B) (said : Saying) (notes : List OwnNote) → Follows a b
      → AreTold one.has_table (one.has_outcome a) (one.has_absence a) wanted said notes
      → AreTold other.has_table (other.has_outcome b) (other.has_absence b) wanted said notes
  told_too wanted a b (asks job) notes follows is = told_of_too wanted a b job notes follows is
  told_too wanted a b (reads files) notes follows is = is
  told_too wanted a b (uses process) notes follows is = is
  told_too wanted a b (merges name) notes follows is = is
  told_too wanted a b (saves name) notes follows is = is
  told_too wanted a b wrong notes follows is = is
  told_too wanted a b nothing notes follows is = is
  told_too wanted a b quits notes follows is = is

  exchanges_too : (wanted : Bool) (a : A) (b : B) (lines : List Turn) (after : A) (replies : List ℕ) (notes : List OwnNote)
      → Follows a b → AreExchanges one wanted a lines after replies notes
      → (there : B) × Follows after there × AreExchanges other wanted b lines there replies notes
  exchanges_too wanted a b [] after replies notes follows are = (b, rw (are.0) follows, (refl, are.1, are.2))
  exchanges_too wanted a b (line ∷ more) after replies notes follows are =
      let first = are.5 in
      let forgets = other.forgets in
      let here = replied_too (IsFaultOf forgets line) a b (saying_in forgets line) are.0 are.1 first.early follows (rw alike at first.replied) in
      let then = exchanges_too wanted are.0 here.0 more after are.2 are.4 here.1 are.6 in (
        then.0,
        then.1,
        (
          here.0,
          are.1,
          are.2,
          are.3,
          are.4,
          record {
            early = first.early;
            late = first.late;
            replied = here.2;
            told = told_too wanted a b (saying_in forgets line) first.late follows (rw alike at first.told);
            all = first.all;
          },
          then.2,
          are.7,
          are.8,
        ),
      )

  -- A dialogue with the first that comes to its end is one with the other.
  pub converses_too : (wanted : Bool) (a : A) (b : B) (text : List ℕ) (Got : List ℕ → List OwnNote → Type 0) (conversed : Conversed)
      → Follows a b → Converses one wanted a text Got conversed → Converses other wanted b text Got conversed
  converses_too wanted a b text Got conversed follows is =
      let all = exchanges_too wanted a b (asked_lines text) is.after is.replies is.notes follows is.exchanged in
      record {
        after = all.0;
        replies = is.replies;
        notes = is.notes;
        exchanged = all.2;
        got = is.got;
        any = rw alike at is.any;
        first = is.first;
      }

  got_too : (a : A) (b : B) (failed : Bool) (Got : List ℕ → List OwnNote → Type 0) (fault : DialogueFault) (later : List Turn)
      (replies : List ℕ) (notes : List OwnNote) → Follows a b → GotAt one a failed Got fault later replies notes
      → GotAt other b failed Got fault later replies notes
  got_too a b failed Got Questions later replies notes follows is = is
  got_too a b failed Got NoMemory later replies notes follows is = is
  got_too a b failed Got Write [] replies notes follows is = absurd is
  got_too a b failed Got Write (line ∷ more) replies notes follows is =
      let forgets = other.forgets in
      let here = replied_too (IsFaultOf forgets line) a b (saying_in forgets line) is.0 is.1 is.3 follows (rw alike at is.4) in
      (here.0, is.1, is.2, is.3, here.2, is.5)

  -- So is one that a fault ends.
  pub stops_too : (wanted : Bool) (a : A) (b : B) (text : List ℕ) (left : Option (List ℕ)) (failed : Bool)
      (Got : List ℕ → List OwnNote → Type 0) (fault : DialogueFault) → Follows a b
      → DialogueStops one wanted a text left failed Got fault → DialogueStops other wanted b text left failed Got fault
  stops_too wanted a b text left failed Got fault follows is =
      let all = exchanges_too wanted a b is.earlier is.state is.replies is.notes follows is.exchanged in
      record {
        earlier = is.earlier;
        later = is.later;
        cut = is.cut;
        state = all.0;
        replies = is.replies;
        notes = is.notes;
        exchanged = all.2;
        got = got_too is.state all.0 failed Got fault is.later is.replies is.notes all.1 is.got;
        in_time = is.in_time;
      }
