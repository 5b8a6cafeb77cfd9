-- The statuses with which the program ends (this project's own).
use Rattle.std.specs.Prelude.{◌&&◌, ℕ, Bool, if◌then◌else◌, Result, Ok, Err}
use Rattle.std.specs.Option.{option_map_or}
use Rattle.htl_inputs.specs.Statuses.{status_of}
use Rattle.htl_inputs.specs.declared.fault.RunFault.{RunFault}
use Rattle.htl_dialogue.specs.declared.dialogue.Conversed.{Conversed}
use Rattle.htl_dialogue.specs.declared.dialogue.DialogueFault.{DialogueFault}
use Rattle.htl_dialogue.specs.declared.dialogue.DialogueFault.TheVariants.{Questions, Write, NoMemory}
use Rattle.htl_main.specs.declared.completed.Completed.{Completed}
use Rattle.htl_ask.specs.declared.ask_fault.AskFault.{AskFault}
use Rattle.htl_ask.specs.declared.ask_fault.AskFault.TheVariants.{Run, Dialogue}

-- the status after a run, which says that the answer finds something only where that is asked for
abbrev pub end_status : Bool → Result Completed RunFault → ℕ
end_status exit_code (Ok completed) = if exit_code && completed.remarks.has_finding then 1 else 0
end_status exit_code (Err fault) = status_of fault

-- the status after a conversion
abbrev pub conversion_status : {X : Type 0} → Result X RunFault → ℕ
conversion_status (Ok done) = 0
conversion_status (Err fault) = status_of fault

-- the status where the replies of a dialogue stopped
abbrev pub stop_status : DialogueFault → ℕ
stop_status Questions = 5
stop_status Write = 5
stop_status NoMemory = 6

-- the status after a dialogue that came to its end: that of a wrong line, where it counts, or that of the first files that are refused
abbrev pub conversed_status : Bool → Conversed → ℕ
conversed_status counts conversed =
    if conversed.has_wrong && counts then 2 else option_map_or status_of conversed.first_fault 0

-- the status after a dialogue
abbrev pub dialogue_status : Bool → Result Conversed AskFault → ℕ
dialogue_status counts (Ok conversed) = conversed_status counts conversed
dialogue_status counts (Err (Run refused)) = status_of refused.fault
dialogue_status counts (Err (Dialogue fault)) = stop_status fault
