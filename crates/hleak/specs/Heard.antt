-- What a listener keeps in mind of the notes of a dialogue: wrong lines that are refused, answers without names, and the gaps (this
-- project's own).
use Rattle.std.specs.Prelude.{ℕ, Bool, true, false, Result, Ok, Err}
use Rattle.htl_command.specs.declared.fault.ParseFault.{ParseFault}
use Rattle.htl_command.specs.declared.fault.ParseFault.TheVariants.{Help}
use Rattle.htl_dialogue.specs.Notes.{OwnNote}
use Rattle.htl_dialogue.specs.declared.note.Note.TheVariants as hear
use Rattle.htl_main.specs.declared.loading.adding.Added.{Added}
use Rattle.htl_main.specs.declared.refused.Refused.{Refused}

-- all but those that ask for help
abbrev pub is_refusal : ParseFault → Bool
is_refusal (Help text) = false
is_refusal other = true

-- A note counts where it refuses a line.
abbrev pub counts_as_wrong : OwnNote → Bool
counts_as_wrong (hear.Refuses fault) = is_refusal fault
counts_as_wrong other = false

-- The symbols had none of the addresses of an answer.
abbrev pub misses_names : OwnNote → Bool
misses_names (hear.Answered job absence remarks) = remarks.is_unnamed
misses_names other = false

-- whether events are forgotten, which the first note tells
abbrev pub forgets_after : Bool → OwnNote → Bool
forgets_after before (hear.Begins files opening) = opening.forgets
forgets_after before other = before

-- how many gaps there are: those that there were before, where files or a state are refused
abbrev pub gaps_read : ℕ → Result Added Refused → ℕ
gaps_read before (Ok added) = added.coverage.gaps
gaps_read before (Err refused) = before

abbrev pub gaps_after : ℕ → OwnNote → ℕ
gaps_after before (hear.Begins files opening) = opening.coverage.gaps
gaps_after before (hear.Reads files ended) = gaps_read before ended
gaps_after before other = before
