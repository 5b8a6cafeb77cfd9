-- What a person reads after the line of a fault (this project's own).
use Rattle.std.specs.Prelude.{◌++◌, ℕ, List, Option, None, Some, codes}
use Rattle.std.specs.Fmt.{decimal}
use Rattle.htl_inputs.specs.declared.fault.RunFault.{RunFault}
use Rattle.htl_inputs.specs.declared.fault.RunFault.TheVariants.{Workers, Segment, Hex, Text, Case, Incomplete, NoSubject, Symbols, Read}
use Rattle.htl_inputs.specs.declared.fault.RunFault.TheVariants.{SymbolsRead, Write, Memory, NoThread, UnknownCut}
use Rattle.htl_inputs.specs.declared.fault.RunFault.TheVariants.{State, Unbounded, StateRead, StateWrite, StateStacks}
use Rattle.htl_dialogue.specs.declared.dialogue.DialogueFault.{DialogueFault}
use Rattle.htl_dialogue.specs.declared.dialogue.DialogueFault.TheVariants as stops
use Rattle.htl_main.specs.declared.origin.Between.{Between}
use Rattle.htl_main.specs.declared.origin.Between.TheVariants.{Two}
use Rattle.htl_program.specs.Words.{free_memory}
use Rattle.hleak.specs.Meanings.{absent_text, case_text, hex_text, line_text, missing_text, no_memory, said, segment_text, symbols_text}
use Rattle.hleak.specs.Meanings.{state_text, too_many_stacks, unbounded_text, unknown_cut_text, unread, unsaved, untaken}
use Rattle.hleak.specs.Shown.{shown_name, shown_text}
use Rattle.hleak.specs.Sides.{side_text, label_of}
use Rattle.hleak.specs.Subjects.{asked_about, event_line_of, forgets_events, has_moment, has_since, input_name, subject_of}
use Rattle.hleak.specs.declared.explaining.explanation.About as declared
use Rattle.hleak.specs.declared.explaining.explanation.About.TheVariants as abouts
use Rattle.hleak.specs.declared.explaining.task.Task.{Task}
use Rattle.hleak.specs.declared.reason.Reason.{Reason}

-- what is wrong, and what to do
abbrev pub meaning_text : Task → RunFault → Reason → List ℕ
meaning_text task Workers reason = said None (codes "there can't be so many workers") (codes "give 1 to 8")
meaning_text task (Segment input offset fault) reason = segment_text fault
meaning_text task (Hex input fault) reason = hex_text fault
meaning_text task (Text input line fault event) reason = line_text fault
meaning_text task (Case fault) reason = case_text task fault
meaning_text task (Incomplete processor number) reason = missing_text (forgets_events task) processor number
meaning_text task (UnknownCut input) reason = unknown_cut_text input
meaning_text task NoSubject reason = absent_text (asked_about task) (has_moment task) (has_since task)
meaning_text task (Symbols fault) reason = symbols_text fault
meaning_text task (Read input) reason = unread reason
meaning_text task SymbolsRead reason = unread reason
meaning_text task Write reason = untaken
meaning_text task (State state offset fault) reason = state_text fault
meaning_text task (Unbounded state processor) reason = unbounded_text processor
meaning_text task (StateRead state) reason = unread reason
meaning_text task StateWrite reason = unsaved reason
meaning_text task StateStacks reason = too_many_stacks
meaning_text task Memory reason = no_memory
meaning_text task NoThread reason = said None (codes "the system started no thread") free_memory

-- what a fault is about: two segments where it sets one against the other, and else a file, a device or the program
abbrev pub about : Task → RunFault → Between → List ℕ
about task (Case fault) (Two first second) =
    side_text (input_name task first.input) (label_of fault first)
    ++ (codes " and " ++ side_text (input_name task second.input) (label_of fault second))
about task fault between = shown_name (subject_of task fault)

abbrev pub about_text : declared.About → List ℕ
about_text (abouts.One name) = shown_text name.has_lines name.text.now
about_text (abouts.Two first second) =
    side_text first.file.now first.label ++ (codes " and " ++ side_text second.file.now second.label)

-- after the line of the event, where the fault is about one
abbrev pub at_line : Option ℕ → List ℕ → List ℕ
at_line None meaning = codes ": " ++ meaning
at_line (Some line) meaning = codes ": line " ++ (decimal line ++ (codes ": " ++ meaning))

abbrev pub explanation_text : Task → RunFault → Between → Reason → List ℕ
explanation_text task fault between reason =
    about task fault between ++ at_line (event_line_of fault) (meaning_text task fault reason)

-- the same where the replies of a dialogue stopped
abbrev pub stopped_text : DialogueFault → Reason → List ℕ
stopped_text stops.Questions reason = codes "standard input: " ++ unread reason
stopped_text stops.Write reason = codes "standard output: " ++ untaken
stopped_text stops.NoMemory reason = codes "hleak: " ++ no_memory
