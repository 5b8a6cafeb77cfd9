-- For the clauses of private functions: the reply to one line, and the notes on it.
use Rattle.std.specs.Prelude.{◌≡◌, ◌≢◌, ⊤, ℕ, Bool, true, false, List, ◌++◌, Option, None, Some, Result, Ok, Err}
use Rattle.std.specs.Io.KnownBytes.{Appends}
use Rattle.htl_device.specs.Devices.{AppendsPrefix}
use Rattle.htl_device.specs.declared.whole.ReadFault.{ReadFault}
use Rattle.htl_device.specs.declared.whole.ReadFault.TheVariants as reads
use Rattle.htl_command.specs.declared.fault.ParseFault.{ParseFault}
use Rattle.htl_command.specs.declared.fault.ParseFault.TheVariants.{Memory}
use Rattle.htl_command.specs.declared.question.Job.{Job}
use Rattle.htl_inputs.specs.declared.fault.RunFault.{RunFault}
use Rattle.htl_dialogue.specs.Dialogues.{Answers, IsReplied, is_wrong}
use Rattle.htl_dialogue.specs.Lines.{arguments_of}
use Rattle.htl_dialogue.specs.Notes.{AreTold, AreToldOf, IsFaultIn, IsFaultOf, OwnNote, after_notes, first_fault}
use Rattle.htl_dialogue.specs.Sayings.{Turn, is_readable, saying}
use Rattle.htl_dialogue.specs.declared.dialogue.Conversed.{Conversed}
use Rattle.htl_dialogue.specs.declared.dialogue.DialogueFault.{DialogueFault}
use Rattle.htl_dialogue.specs.declared.dialogue.DialogueFault.TheVariants.{Questions, Write, NoMemory}
use Rattle.htl_dialogue.specs.declared.saying.Said.{Said}
use Rattle.htl_main.specs.declared.loading.adding.Added.{Added}
use Rattle.htl_main.specs.declared.completed.Absence.{Absence}
use Rattle.htl_main.specs.declared.printing.AnswerText.{AnswerText}
use Rattle.htl_main.specs.declared.refused.Refused.{Refused}
use Rattle.htl_main.specs.declared.remarks.Remarks.{Remarks}
use Rattle.htl_dialogue.specs.declared.saying.Said.TheVariants as said

-- the fault of a dialogue whose lines could not be read
abbrev pub of_read : ReadFault → DialogueFault
of_read reads.Failed = Questions
of_read reads.NoMemory = NoMemory

-- why files, or a state, are refused, where they are
abbrev pub fault_of : Result Added Refused → Option RunFault
fault_of (Ok added) = None
fault_of (Err refused) = Some refused.fault

-- where a line is wrong, its fault is such a one
abbrev pub HasFault : (ParseFault → Type 0) → Said → Type 0
HasFault IsSuch (said.Wrong fault) = IsSuch fault
HasFault IsSuch said.Nothing = ⊤
HasFault IsSuch said.Quits = ⊤
HasFault IsSuch (said.Asks job) = ⊤
HasFault IsSuch (said.Reads files) = ⊤
HasFault IsSuch (said.Uses process) = ⊤
HasFault IsSuch (said.Merges name) = ⊤
HasFault IsSuch (said.Saves name) = ⊤

-- where a line is wrong, its fault is such a one, and isn't that memory was refused
abbrev pub HasReason : (ParseFault → Type 0) → Said → Type 0
HasReason IsSuch = HasFault (λ fault. (fault ≢ Memory) × IsSuch fault)

-- where the line is wrong in whatever dialogue, its fault is one of this line
abbrev pub KeepsOwnFault : Turn → Said → Type 0
KeepsOwnFault line = HasReason (IsFaultIn (is_readable line.line) line.process (arguments_of line.line))

-- where the line is wrong in a dialogue that forgets events, or keeps them, its fault is one of this line
abbrev pub KeepsFault : Bool → Turn → Said → Type 0
KeepsFault forgets line = HasFault (IsFaultOf forgets line)

-- where a line is wrong, its fault is this one
abbrev pub IsSaidFault : Said → ParseFault → Type 0
IsSaidFault of fault = HasFault (λ kept. fault ≡ kept) of

-- What was said got its reply: the known bytes of a sink got it, and the speaker the notes before it and after it. It is told whether a
-- line was wrong, and the fault of files that were to be read, or of a question that isn't answered, or a state that isn't merged or saved.
pub record Replies {S Speaker : Type 0} (answers : Answers S) (wanted : Bool) (of : Said) (before after : S) (old new : Option (List ℕ))
    (told : Speaker → OwnNote → Speaker) (speaker heard : Speaker) (conversed : Conversed) : Type 0 where
  pub reply : List ℕ
  pub early : List OwnNote
  pub late : List OwnNote
  pub replied : IsReplied answers (IsSaidFault of) before (saying of) after reply early
  pub told_late : AreTold answers.has_table (answers.has_outcome before) (answers.has_absence before) wanted (saying of) late
  pub written : Appends old new reply
  pub all : heard ≡ after_notes told speaker (early ++ late)
  pub wrong : conversed.has_wrong ≡ is_wrong (saying of)
  pub first : conversed.first_fault ≡ first_fault early

-- a speaker heard of a question whose answer has these remarks, where they want to know
pub record Tells {Speaker : Type 0} (has_table : Bool) (HasAbsence : Job → Option Absence → Type 0) (remarks : Remarks) (wanted : Bool)
    (told : Speaker → OwnNote → Speaker) (speaker : Speaker) (job : Job) (after : Speaker) : Type 0 where
  pub late : List OwnNote
  pub is : (answer : AnswerText) → answer.remarks ≡ remarks
      → AreToldOf has_table (λ _ outcome. outcome ≡ Ok answer) HasAbsence wanted job late
  pub heard : after ≡ after_notes told speaker late

-- a write failed after some first part of the reply, and after the notes before it
pub record Breaks {S Speaker : Type 0} (answers : Answers S) (of : Said) (before : S) (old new : Option (List ℕ))
    (told : Speaker → OwnNote → Speaker) (speaker heard : Speaker) : Type 0 where
  pub after : S
  pub reply : List ℕ
  pub early : List OwnNote
  pub replied : IsReplied answers (IsSaidFault of) before (saying of) after reply early
  pub written : AppendsPrefix old new reply
  pub all : heard ≡ after_notes told speaker early

-- why a line got no reply: memory was refused, or a write failed
abbrev pub IsRefusedReply : {S Speaker : Type 0} → Answers S → Said → S → Option (List ℕ) → Option (List ℕ) → Bool
    → (Speaker → OwnNote → Speaker) → Speaker → Speaker → DialogueFault → Type 0
IsRefusedReply answers of before old new failed told speaker heard NoMemory = (new ≡ old) × (failed ≡ false) × (heard ≡ speaker)
IsRefusedReply answers of before old new failed told speaker heard Write =
    (failed ≡ true) × Breaks answers of before old new told speaker heard
IsRefusedReply answers of before old new failed told speaker heard Questions = ⊥
