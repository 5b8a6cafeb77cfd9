-- Notes come after other notes, and the first files that are refused give the fault among them.
use Rattle.std.proofs.Common.{◌≡◌, ◌∙◌, Bool, true, false, List, [], ◌∷◌, ◌++◌, None, Some, Ok, Err, refl, sym, ap}
use Rattle.std.specs.Option.{option_or}
use Rattle.std.specs.Prelude.{Option, Result}
use Rattle.htl_command.specs.declared.question.Job.{Job}
use Rattle.htl_inputs.specs.declared.fault.RunFault.{RunFault}
use Rattle.htl_dialogue.specs.Notes.{AreTold, AreToldOf, OwnNote, after_notes, first_fault, told_after}
use Rattle.htl_dialogue.specs.declared.note.Note.TheVariants as hear
use Rattle.htl_main.specs.declared.completed.Absence.{Absence}
use Rattle.htl_main.specs.declared.printing.AnswerText.{AnswerText}
use Rattle.htl_dialogue.specs.Sayings.{Saying, asks, merges, nothing, quits, reads, saves, uses, wrong}

-- notes after others
pub notes_after : {Speaker : Type 0} (told : Speaker → OwnNote → Speaker) (speaker : Speaker) (first more : List OwnNote)
    → after_notes told speaker (first ++ more) ≡ after_notes told (after_notes told speaker first) more
notes_after told speaker [] more = refl
notes_after told speaker (note ∷ first) more = notes_after told (told speaker note) first more

-- a line is awaited after notes
pub one_more : {Speaker : Type 0} (told : Speaker → OwnNote → Speaker) (speaker now mid : Speaker) (notes : List OwnNote) → now ≡ after_notes told speaker notes
    → mid ≡ told now hear.Awaits → mid ≡ after_notes told speaker (notes ++ hear.Awaits ∷ [])
one_more told speaker now mid notes heard waited =
    waited ∙ ap (λ h. told h hear.Awaits) heard ∙ sym (notes_after told speaker notes (hear.Awaits ∷ []))

-- and notes on it follow
pub line_more : {Speaker : Type 0} (told : Speaker → OwnNote → Speaker) (speaker now mid end : Speaker) (notes own : List OwnNote)
    → now ≡ after_notes told speaker notes → mid ≡ told now hear.Awaits → end ≡ after_notes told mid own
    → end ≡ after_notes told speaker (notes ++ hear.Awaits ∷ own)
line_more told speaker now mid end notes own heard waited then =
    then ∙ ap (λ h. after_notes told h own) (waited ∙ ap (λ h. told h hear.Awaits) heard) ∙ sym (notes_after told speaker notes (hear.Awaits ∷ own))

-- the first fault of notes put together is that of the first of them which has one
pub first_fault-append : (xs ys : List OwnNote) → first_fault (xs ++ ys) ≡ option_or (first_fault xs) (first_fault ys)
first_fault-append [] ys = refl
first_fault-append (hear.Begins files opening ∷ xs) ys = first_fault-append xs ys
first_fault-append (hear.Awaits ∷ xs) ys = first_fault-append xs ys
first_fault-append (hear.Refuses fault ∷ xs) ys = first_fault-append xs ys
first_fault-append (hear.Reads files (Ok added) ∷ xs) ys = first_fault-append xs ys
first_fault-append (hear.Reads files (Err refused) ∷ xs) ys = refl
first_fault-append (hear.Declines fault ∷ xs) ys = refl
first_fault-append (hear.Answered job absence remarks ∷ xs) ys = first_fault-append xs ys

-- what follows a reply is no fault
after_has_no_fault : (has_table : Bool) (job : Job) (absence : Option Absence) (outcome : Result AnswerText RunFault)
    → first_fault (told_after has_table job absence outcome) ≡ None
after_has_no_fault has_table job absence (Ok answer) = refl
after_has_no_fault has_table job absence (Err fault) = refl

module _ (has_table : Bool) (HasOutcome : Job → Result AnswerText RunFault → Type 0) (HasAbsence : Job → Option Absence → Type 0) where
  told_has_no_fault_of : (wanted : Bool) (job : Job) (notes : List OwnNote)
      → AreToldOf has_table HasOutcome HasAbsence wanted job notes → first_fault notes ≡ None
  told_has_no_fault_of false job notes is = ap first_fault is
  told_has_no_fault_of true job notes is = ap first_fault is.4 ∙ after_has_no_fault has_table job is.2 is.0

  told_has_no_fault : (wanted : Bool) (said : Saying) (notes : List OwnNote)
      → AreTold has_table HasOutcome HasAbsence wanted said notes → first_fault notes ≡ None
  told_has_no_fault wanted (asks job) notes is = told_has_no_fault_of wanted job notes is
  told_has_no_fault wanted (reads files) notes is = ap first_fault is
  told_has_no_fault wanted (uses process) notes is = ap first_fault is
  told_has_no_fault wanted (merges name) notes is = ap first_fault is
  told_has_no_fault wanted (saves name) notes is = ap first_fault is
  told_has_no_fault wanted nothing notes is = ap first_fault is
  told_has_no_fault wanted quits notes is = ap first_fault is
  told_has_no_fault wanted wrong notes is = ap first_fault is

-- what is told of one outcome is told of one that is such
pub told_of_such : (has_table : Bool) (HasOutcome Such : Job → Result AnswerText RunFault → Type 0) (HasAbsence : Job → Option Absence → Type 0)
    (wanted : Bool) (job : Job) (notes : List OwnNote) → ((outcome : Result AnswerText RunFault) → HasOutcome job outcome → Such job outcome)
    → AreToldOf has_table HasOutcome HasAbsence wanted job notes → AreToldOf has_table Such HasAbsence wanted job notes
told_of_such has_table HasOutcome Such HasAbsence false job notes such is = is
told_of_such has_table HasOutcome Such HasAbsence true job notes such is = (is.0, such is.0 is.1, is.2, is.3, is.4)

none_after : {X : Type 0} (o : Option X) → option_or o None ≡ o
none_after None = refl
none_after (Some x) = refl

-- the fault of a line is that before its reply
pub line_fault : (has_table : Bool) (HasOutcome : Job → Result AnswerText RunFault → Type 0) (HasAbsence : Job → Option Absence → Type 0)
    (wanted : Bool) (said : Saying) (early late : List OwnNote) → AreTold has_table HasOutcome HasAbsence wanted said late
    → first_fault (hear.Awaits ∷ (early ++ late)) ≡ first_fault early
line_fault has_table HasOutcome HasAbsence wanted said early late told =
    first_fault-append early late ∙ ap (λ o. option_or (first_fault early) o) (told_has_no_fault has_table HasOutcome HasAbsence wanted said late told)
    ∙ none_after (first_fault early)
