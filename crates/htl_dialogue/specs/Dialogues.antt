-- What a dialogue writes, and what its speaker is told (this project's own): the reply to one line after the other, up to the one that
-- ends it. Who answers may change: a line has files read, or a state merged, and the lines after it are answered from these too.
use Rattle.std.specs.Prelude.{◌≡◌, ◌⊎◌, ℕ, Bool, true, false, List, [], ◌∷◌, ◌++◌, Option, Some, if◌then◌else◌, take}
use Rattle.std.specs.Prelude.{None, Result, Ok, Err, codes}
use Rattle.std.specs.Fmt.{decimal}
use Rattle.std.specs.List.{list_any}
use Rattle.std.specs.Io.KnownBytes.{Appends, Consumes}
use Rattle.htl_command.specs.declared.fault.ParseFault.{ParseFault}
use Rattle.htl_command.specs.declared.question.Job.{Job}
use Rattle.htl_inputs.specs.declared.fault.RunFault.{RunFault}
use Rattle.htl_dialogue.specs.Lines.{lines_of_dialogue}
use Rattle.htl_dialogue.specs.Notes.{AreTold, IsFaultOf, OwnNote, after_notes, declined, first_fault, unsaved_note}
use Rattle.htl_dialogue.specs.Sayings.{Saying, nothing, quits, asks, reads, uses, merges, saves, wrong, saying_in, saying_of}
use Rattle.htl_dialogue.specs.Sayings.{Turn, lines_in, turns_of}
use Rattle.htl_dialogue.specs.declared.dialogue.Conversed.{Conversed}
use Rattle.htl_dialogue.specs.declared.dialogue.DialogueFault.{DialogueFault}
use Rattle.htl_dialogue.specs.declared.dialogue.DialogueFault.TheVariants.{Questions, Write, NoMemory}
use Rattle.htl_dialogue.specs.declared.note.Note.TheVariants as hear
use Rattle.htl_main.specs.Adding.{added_text}
use Rattle.htl_main.specs.declared.loading.adding.Added.{Added}
use Rattle.htl_main.specs.declared.completed.Absence.{Absence}
use Rattle.htl_main.specs.declared.printing.AnswerText.{AnswerText}
use Rattle.htl_main.specs.declared.refused.Refused.{Refused}

-- Who answers: whether it forgets events, and whether it has a table of symbols; and by what holds in each of its states, the answer to a
-- job, or why it isn't answered; why nothing can be found of what a job's question is about; where it leads that files of these names are
-- read, and how that ends; where it leads that the saved state of this name is merged, and how that ends; and how many bytes are saved by
-- this name, or why none are.
pub record Answers (S : Type 0) : Type 1 where
  pub forgets : Bool
  pub has_table : Bool
  pub has_outcome : S → Job → Result AnswerText RunFault → Type 0
  pub has_absence : S → Job → Option Absence → Type 0
  pub reads : S → List (List ℕ) → S → Result Added Refused → Type 0
  pub merges : S → List ℕ → S → Result Added Refused → Type 0
  pub saves : S → List ℕ → Result ℕ RunFault → Type 0

abbrev pub answers_by : {S : Type 0} → Bool → Bool → (S → Job → Result AnswerText RunFault → Type 0) → (S → Job → Option Absence → Type 0)
    → (S → List (List ℕ) → S → Result Added Refused → Type 0) → (S → List ℕ → S → Result Added Refused → Type 0)
    → (S → List ℕ → Result ℕ RunFault → Type 0) → Answers S
answers_by forgets has_table has_outcome has_absence reads_files merges_state saves_state = record {
  forgets = forgets;
  has_table = has_table;
  has_outcome = has_outcome;
  has_absence = has_absence;
  reads = reads_files;
  merges = merges_state;
  saves = saves_state;
}

-- the reply to a question: the lines of its answer and a line feed, or the line feed alone where it isn't answered
abbrev pub question_reply : Result AnswerText RunFault → List ℕ
question_reply (Ok answer) = answer.lines.items ++ 10 ∷ []
question_reply (Err fault) = 10 ∷ []

-- the reply to files that were to be read: what they brought, or the line feed alone
abbrev pub reading_reply : Result Added Refused → List ℕ
reading_reply (Ok added) = added_text added ++ 10 ∷ (10 ∷ [])
reading_reply (Err refused) = 10 ∷ []

-- the line that says what a state brought
abbrev pub merged_text : Added → List ℕ
merged_text added =
    codes "merged segments=" ++ (decimal added.segments ++ (codes " new=" ++ (decimal added.new
    ++ (codes " complete_to=" ++ (decimal added.coverage.complete_to ++ (codes " gaps=" ++ decimal added.coverage.gaps))))))

-- the reply to a state that was to be merged: what it brought, or the line feed alone
abbrev pub merging_reply : Result Added Refused → List ℕ
merging_reply (Ok added) = merged_text added ++ 10 ∷ (10 ∷ [])
merging_reply (Err refused) = 10 ∷ []

-- the reply to a state that was to be saved: its number of bytes, or the line feed alone
abbrev pub saving_reply : Result ℕ RunFault → List ℕ
saving_reply (Ok bytes) = codes "saved bytes=" ++ (decimal bytes ++ 10 ∷ (10 ∷ []))
saving_reply (Err fault) = 10 ∷ []

-- the reply to a process that is used from here on, or to none: it says so
abbrev pub using_reply : Option ℕ → List ℕ
using_reply (Some process) = codes "using process=" ++ (decimal process ++ 10 ∷ (10 ∷ []))
using_reply None = codes "using process=none" ++ 10 ∷ (10 ∷ [])

-- What becomes of what a line says, up to its reply: the state that it leads to, the reply, and the notes before it. A question gets the
-- text of its answer and a line feed; a wrong line, or a question that isn't answered, the line feed alone; and a line that says nothing
-- gets nothing. Why a line is wrong, or isn't answered, or what a line reads or merges, is given first.
abbrev pub IsReplied : {S : Type 0} → Answers S → (ParseFault → Type 0) → S → Saying → S → List ℕ → List OwnNote → Type 0
IsReplied answers IsWhy before (asks job) after reply notes =
    (after ≡ before) × (outcome : Result AnswerText RunFault) × answers.has_outcome before job outcome × (reply ≡ question_reply outcome)
    × (notes ≡ declined outcome)
IsReplied answers IsWhy before (reads files) after reply notes =
    (ended : Result Added Refused) × answers.reads before files after ended × (reply ≡ reading_reply ended)
    × (notes ≡ hear.Reads files ended ∷ [])
IsReplied answers IsWhy before (merges name) after reply notes =
    (ended : Result Added Refused) × answers.merges before name after ended × (reply ≡ merging_reply ended)
    × (notes ≡ hear.Reads (name ∷ []) ended ∷ [])
IsReplied answers IsWhy before (saves name) after reply notes =
    (after ≡ before) × (ended : Result ℕ RunFault) × answers.saves before name ended × (reply ≡ saving_reply ended)
    × (notes ≡ unsaved_note ended)
IsReplied answers IsWhy before wrong after reply notes =
    (after ≡ before) × (reply ≡ 10 ∷ []) × ((fault : ParseFault) × IsWhy fault × (notes ≡ hear.Refuses fault ∷ []))
IsReplied answers IsWhy before (uses process) after reply notes = (after ≡ before) × (reply ≡ using_reply process) × (notes ≡ [])
IsReplied answers IsWhy before nothing after reply notes = (after ≡ before) × (reply ≡ []) × (notes ≡ [])
IsReplied answers IsWhy before quits after reply notes = (after ≡ before) × (reply ≡ []) × (notes ≡ [])

-- A line is awaited and got its reply, with these notes before it and after it.
pub record IsExchange {S : Type 0} (answers : Answers S) (wanted : Bool) (before : S) (line : Turn) (after : S) (reply : List ℕ)
    (notes : List OwnNote) : Type 0 where
  pub early : List OwnNote
  pub late : List OwnNote
  pub replied : IsReplied answers (IsFaultOf answers.forgets line) before (saying_in answers.forgets line) after reply early
  pub told : AreTold answers.has_table (answers.has_outcome before) (answers.has_absence before) wanted
      (saying_in answers.forgets line) late
  pub all : notes ≡ hear.Awaits ∷ (early ++ late)

-- Lines got their replies, one after the other.
abbrev pub AreExchanges : {S : Type 0} → Answers S → Bool → S → List Turn → S → List ℕ → List OwnNote → Type 0
AreExchanges answers wanted before [] after replies notes = (after ≡ before) × (replies ≡ []) × (notes ≡ [])
AreExchanges {S = S} answers wanted before (line ∷ more) after replies notes =
    (between : S) × (reply later : List ℕ) × (own rest : List OwnNote) × IsExchange answers wanted before line between reply own
    × AreExchanges answers wanted between more after later rest × (replies ≡ reply ++ later) × (notes ≡ own ++ rest)

abbrev pub is_end : Saying → Bool
is_end quits = true
is_end other = false

abbrev pub is_wrong : Saying → Bool
is_wrong wrong = true
is_wrong other = false

-- the lines before the first that ends the dialogue
abbrev pub before_end : List Turn → List Turn
before_end [] = []
before_end (line ∷ more) = if is_end (saying_of line) then [] else line ∷ before_end more

-- The lines of a text where they stand. Before the first no process is used.
abbrev pub turns_in : List ℕ → List Turn
turns_in text = turns_of None (lines_of_dialogue text)

-- The lines of a text that get a reply.
abbrev pub asked_lines : List ℕ → List Turn
asked_lines text = before_end (turns_in text)

-- one line more is awaited, where it ends the dialogue
abbrev pub last_wait : List ℕ → List OwnNote
last_wait text = if list_any (λ line. is_end (saying_of line)) (turns_in text) then hear.Awaits ∷ [] else []

-- the known bytes of a sink got these replies, and a speaker these notes
abbrev pub Gets : {Speaker : Type 0} → Option (List ℕ) → Option (List ℕ) → (Speaker → OwnNote → Speaker) → Speaker → Speaker → List ℕ
    → List OwnNote → Type 0
Gets old new told speaker after replies notes = Appends old new replies × (after ≡ after_notes told speaker notes)

-- Converses: all lines of the text got their replies and the speaker the notes on them. What is said of it is whether a line was wrong,
-- and the fault of the first files that are refused, or of the first question that isn't answered or state that isn't merged or saved.
pub record Converses {S : Type 0} (answers : Answers S) (wanted : Bool) (before : S) (text : List ℕ)
    (Got : List ℕ → List OwnNote → Type 0) (conversed : Conversed) : Type 0 where
  pub after : S
  pub replies : List ℕ
  pub notes : List OwnNote
  pub exchanged : AreExchanges answers wanted before (asked_lines text) after replies notes
  pub got : Got replies (notes ++ last_wait text)
  pub any : conversed.has_wrong ≡ list_any (λ line. is_wrong (saying_in answers.forgets line)) (asked_lines text)
  pub first : conversed.first_fault ≡ first_fault notes

-- What was written and told where a fault ends the replies. Where a reply could not be written, some first part of it was, after the
-- notes before it. Before another fault one line more was awaited; or none, if no read failed.
abbrev pub GotAt : {S : Type 0} → Answers S → S → Bool → (List ℕ → List OwnNote → Type 0) → DialogueFault → List Turn → List ℕ
    → List OwnNote → Type 0
GotAt answers state failed Got Write [] replies notes = ⊥
GotAt {S = S} answers state failed Got Write (line ∷ more) replies notes =
    (after : S) × (reply : List ℕ) × (count : ℕ) × (early : List OwnNote)
    × IsReplied answers (IsFaultOf answers.forgets line) state (saying_in answers.forgets line) after reply early
    × Got (replies ++ take count reply) (notes ++ hear.Awaits ∷ early)
GotAt answers state failed Got Questions later replies notes =
    Got replies (notes ++ hear.Awaits ∷ []) ⊎ ((failed ≡ false) × Got replies notes)
GotAt answers state failed Got NoMemory later replies notes =
    Got replies (notes ++ hear.Awaits ∷ []) ⊎ ((failed ≡ false) × Got replies notes)

-- These are the lines that were read to their line feeds, of a text of which this is left.
abbrev pub AreRead : List ℕ → Option (List ℕ) → List Turn → Type 0
AreRead text left lines = (read begun : List ℕ) × Consumes (Some text) left read × (lines_of_dialogue read ≡ lines_in lines ++ begun ∷ [])

-- A fault ends the dialogue: the lines before it got their replies. Where a read failed, these are all lines that were read, so that no
-- line waits for its reply while the next is read, and nothing is read after a line that ends the dialogue.
pub record DialogueStops {S : Type 0} (answers : Answers S) (wanted : Bool) (before : S) (text : List ℕ) (left : Option (List ℕ))
    (failed : Bool) (Got : List ℕ → List OwnNote → Type 0) (fault : DialogueFault) : Type 0 where
  pub earlier : List Turn
  pub later : List Turn
  pub cut : asked_lines text ≡ earlier ++ later
  pub state : S
  pub replies : List ℕ
  pub notes : List OwnNote
  pub exchanged : AreExchanges answers wanted before earlier state replies notes
  pub got : GotAt answers state failed Got fault later replies notes
  pub in_time : failed ≡ true → AreRead text left earlier
