-- What a speaker is told beside the replies (this project's own).
use Rattle.std.specs.Prelude.{◌≡◌, ◌≢◌, ◌&&◌, ⊤, not, ℕ, Bool, true, false, List, [], ◌∷◌, Option, None, Some, Result, Ok, Err}
use Rattle.std.specs.Prelude.{String, map, string_bytes}
use Rattle.std.specs.Borrow.{Bor}
use Rattle.htl_command.specs.Helps.{IsHelp}
use Rattle.htl_command.specs.Refusals.{IsUsageWith, RefusesQuestion}
use Rattle.htl_command.specs.declared.fault.ParseFault.{ParseFault}
use Rattle.htl_command.specs.declared.fault.ParseFault.TheVariants.{Memory}
use Rattle.htl_command.specs.declared.question.Job.{Job}
use Rattle.htl_inputs.specs.declared.fault.RunFault.{RunFault}
use Rattle.htl_dialogue.specs.Lines.{arguments_of}
use Rattle.htl_dialogue.specs.Sayings.{Saying, Turn, is_readable, is_refused_in, meant, saying_of, sort_of, with_process}
use Rattle.htl_dialogue.specs.Sayings.{nothing, quits, asks, reads, uses, merges, saves, wrong}
use Rattle.htl_dialogue.specs.declared.note.Note.{Note}
use Rattle.htl_dialogue.specs.declared.note.Note.TheVariants as hear
use Rattle.htl_dialogue.specs.declared.sorting.Sort.{Sort}
use Rattle.htl_dialogue.specs.declared.sorting.Sort.TheVariants as sort
use Rattle.htl_main.specs.declared.completed.Absence.{Absence}
use Rattle.htl_main.specs.declared.printing.AnswerText.{AnswerText}
use Rattle.htl_main.specs.declared.remarks.Remarks.{Remarks}

-- a note as it was heard: it has what it was lent
abbrev pub OwnNote : Type 0
OwnNote = Note (List (List ℕ)) ParseFault Job

abbrev pub owned : {A : Type 0} → Note (Bor (List (String A))) (Bor ParseFault) (Bor Job) → OwnNote
owned (hear.Begins files opening) = hear.Begins (map string_bytes files.now) opening
owned hear.Awaits = hear.Awaits
owned (hear.Refuses fault) = hear.Refuses fault.now
owned (hear.Reads files ended) = hear.Reads (map string_bytes files.now) ended
owned (hear.Declines fault) = hear.Declines fault
owned (hear.Answered job absence remarks) = hear.Answered job.now absence remarks

-- the speaker after one note after the other
abbrev pub after_notes : {Speaker : Type 0} → (Speaker → OwnNote → Speaker) → Speaker → List OwnNote → Speaker
after_notes told speaker [] = speaker
after_notes told speaker (note ∷ more) = after_notes told (told speaker note) more

-- the fault of the first files that are refused, or of the first question that isn't answered or state that isn't merged or saved,
-- whichever comes first
abbrev pub first_fault : List OwnNote → Option RunFault
first_fault [] = None
first_fault (hear.Reads files (Err refused) ∷ more) = Some refused.fault
first_fault (hear.Declines fault ∷ more) = Some fault
first_fault (other ∷ more) = first_fault more

-- why arguments of a sort are wrong where this process is used: they ask for no job, or for the help of a word; or the word `read` stands
-- without files or before an option (`reading` says when), or the word `use` before what is no process (`using` does), or `merge` or `save`
-- before anything but one name (`naming` does)
abbrev pub IsFaultAs : Sort → Option ℕ → List (List ℕ) → ParseFault → Type 0
IsFaultAs sort.Question process arguments fault = RefusesQuestion (meant (with_process process arguments)) fault
IsFaultAs sort.Help process arguments fault = IsHelp fault
IsFaultAs sort.Files process arguments fault = IsUsageWith ⊤ fault
IsFaultAs sort.Process process arguments fault = IsUsageWith ⊤ fault
IsFaultAs sort.Merge process arguments fault = IsUsageWith ⊤ fault
IsFaultAs sort.Save process arguments fault = IsUsageWith ⊤ fault
IsFaultAs sort.Farewell process arguments fault = IsUsageWith ⊤ fault
IsFaultAs sort.Nothing process arguments fault = IsUsageWith ⊤ fault

abbrev pub IsFaultBy : Option ℕ → List (List ℕ) → ParseFault → Type 0
IsFaultBy process arguments fault = IsFaultAs (sort_of arguments) process arguments fault

-- the same of arguments that count (`true`), and of others
abbrev pub IsFaultIn : Bool → Option ℕ → List (List ℕ) → ParseFault → Type 0
IsFaultIn true process arguments fault = IsFaultBy process arguments fault
IsFaultIn false process arguments fault = IsUsageWith ⊤ fault

-- Why a line is wrong in a dialogue that forgets events, or keeps them. It is not that memory was refused: its arguments are wrong, or it
-- has none, or what it says is refused in such a dialogue.
abbrev pub IsFaultOf : Bool → Turn → ParseFault → Type 0
IsFaultOf forgets turn fault =
    (fault ≢ Memory)
    × IsFaultIn (not (is_refused_in forgets (saying_of turn)) && is_readable turn.line) turn.process (arguments_of turn.line) fault

-- the note before the reply to a question: why it isn't answered
abbrev pub declined : Result AnswerText RunFault → List OwnNote
declined (Ok answer) = []
declined (Err fault) = hear.Declines fault ∷ []

-- the note before the reply to a state that is to be saved, of which the number of bytes is told: why it isn't saved
abbrev pub unsaved_note : Result ℕ RunFault → List OwnNote
unsaved_note (Ok bytes) = []
unsaved_note (Err fault) = hear.Declines fault ∷ []

-- what is told of an answer whose addresses are printed by a table of symbols, or by none
abbrev pub told_of : Bool → Remarks → Remarks
told_of has_table remarks = record remarks { is_unnamed = has_table && remarks.is_unnamed }

-- the note after it, where it was answered
abbrev pub told_after : Bool → Job → Option Absence → Result AnswerText RunFault → List OwnNote
told_after has_table job absence (Ok answer) = hear.Answered job absence (told_of has_table answer.remarks) ∷ []
told_after has_table job absence (Err fault) = []

-- the notes after the reply to a question, where the speaker wants to know
abbrev pub AreToldOf : Bool → (Job → Result AnswerText RunFault → Type 0) → (Job → Option Absence → Type 0) → Bool → Job → List OwnNote
    → Type 0
AreToldOf has_table HasOutcome HasAbsence false job notes = notes ≡ []
AreToldOf has_table HasOutcome HasAbsence true job notes =
    (outcome : Result AnswerText RunFault) × HasOutcome job outcome × (absence : Option Absence) × HasAbsence job absence
    × (notes ≡ told_after has_table job absence outcome)

-- the notes after the reply to a line
abbrev pub AreTold : Bool → (Job → Result AnswerText RunFault → Type 0) → (Job → Option Absence → Type 0) → Bool → Saying → List OwnNote
    → Type 0
AreTold has_table HasOutcome HasAbsence wanted (asks job) notes = AreToldOf has_table HasOutcome HasAbsence wanted job notes
AreTold has_table HasOutcome HasAbsence wanted nothing notes = notes ≡ []
AreTold has_table HasOutcome HasAbsence wanted quits notes = notes ≡ []
AreTold has_table HasOutcome HasAbsence wanted (reads files) notes = notes ≡ []
AreTold has_table HasOutcome HasAbsence wanted (uses process) notes = notes ≡ []
AreTold has_table HasOutcome HasAbsence wanted (merges name) notes = notes ≡ []
AreTold has_table HasOutcome HasAbsence wanted (saves name) notes = notes ≡ []
AreTold has_table HasOutcome HasAbsence wanted wrong notes = notes ≡ []
