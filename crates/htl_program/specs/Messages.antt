-- What a person is told beside the output (this project's own).
use Rattle.std.specs.Prelude.{◌≡◌, ◌++◌, ◌∷◌, ◌&&◌, ◌==◌, [], not, Bool, true, false, List, Option, None, Some}
use Rattle.std.specs.Prelude.{IfSome, if◌then◌else◌, is_some}
use Rattle.std.specs.Borrow.{Bor}
use Rattle.htl_command.specs.declared.command.Command.{Command}
use Rattle.htl_command.specs.declared.command.Run.{Run}
use Rattle.htl_command.specs.declared.fault.ParseFault.{ParseFault}
use Rattle.htl_command.specs.declared.question.Job.{Job}
use Rattle.htl_command.specs.declared.question.Moment.{Moment}
use Rattle.htl_inputs.specs.declared.cuts.CutInputs.{CutInputs}
use Rattle.htl_inputs.specs.declared.fault.RunFault.{RunFault}
use Rattle.htl_dialogue.specs.declared.dialogue.DialogueFault.{DialogueFault}
use Rattle.htl_main.specs.Moments.{is_above}
use Rattle.htl_main.specs.declared.completed.Completed.{Completed}
use Rattle.htl_main.specs.declared.coverage.Coverage.{Coverage}
use Rattle.htl_main.specs.declared.loading.adding.Added.{Added}
use Rattle.htl_main.specs.declared.origin.Between.TheVariants.{Nothing}
use Rattle.htl_main.specs.declared.refused.Refused.{Refused}
use Rattle.htl_program.specs.AskedAbout.{lack_of}
use Rattle.htl_program.specs.declared.saying.lack.Lack.{Lack}
use Rattle.htl_program.specs.declared.saying.message.Message.{Message}
use Rattle.htl_program.specs.declared.saying.message.Message.TheVariants as say

-- a message as it was heard: it has what it was lent
abbrev pub Said : Type 0
Said = Message Command ParseFault

abbrev pub owned : Message (Bor Command) (Bor ParseFault) → Said
owned (say.Begins command) = say.Begins command.now
owned say.Ends = say.Ends
owned (say.Refusal why) = say.Refusal why.now
owned say.Unwritten = say.Unwritten
owned (say.Fault refused) = say.Fault refused
owned (say.Meaning command refused) = say.Meaning command.now refused
owned (say.Lack lacking) = say.Lack lacking
owned say.Unnamed = say.Unnamed
owned (say.Gaps command coverage) = say.Gaps command.now coverage
owned (say.Cut command inputs) = say.Cut command.now inputs
owned (say.Stop stopped) = say.Stop stopped
owned (say.StopMeaning stopped) = say.StopMeaning stopped

-- a fault that is about no two segments
abbrev pub alone : RunFault → Refused
alone reported = record { fault = reported; between = Nothing }

-- what is said of the fault that ended the run of a command, and whether in words too
abbrev pub fault_said : Bool → Command → Refused → List Said
fault_said true command refused = say.Fault refused ∷ say.Meaning command refused ∷ []
fault_said false command refused = say.Fault refused ∷ []

-- the same where the replies of a dialogue stopped
abbrev pub stop_said : Bool → DialogueFault → List Said
stop_said true stopped = say.Stop stopped ∷ say.StopMeaning stopped ∷ []
stop_said false stopped = say.Stop stopped ∷ []

-- what the question lacks, if anything
abbrev pub said_lack : Option Lack → List Said
said_lack None = []
said_lack (Some lacking) = say.Lack lacking ∷ []

abbrev pub lack_said : Job → Completed → List Said
lack_said job completed = said_lack (lack_of job completed.absence completed.remarks)

-- that the table of symbols has none of the addresses, where that is so
abbrev pub unnamed_said : Bool → List Said
unnamed_said is_unnamed = if is_unnamed then say.Unnamed ∷ [] else []

-- Segments are missing, and the moment up to which events count is above what the case is complete to. What that means is told by the
-- command, since one that forgets events can't be asked as of a moment.
abbrev pub is_touched : Coverage → Option Moment → Bool
is_touched coverage until = not (coverage.gaps == 0) && is_above until coverage.complete_to

abbrev pub gaps_said : Command → Coverage → Option Moment → List Said
gaps_said command coverage until = if is_touched coverage until then say.Gaps command coverage ∷ [] else []

-- some inputs end within a segment, which are told by what the command names
abbrev pub cut_said : Command → Option CutInputs → List Said
cut_said command None = []
cut_said command (Some inputs) = say.Cut command inputs ∷ []

-- what is said of the inputs of a command: that segments are missing, and which inputs end within one
abbrev pub inputs_said : Command → Coverage → Option Moment → Option CutInputs → List Said
inputs_said command coverage until cut = gaps_said command coverage until ++ cut_said command cut

-- what is said beside the text of segments, where words are wanted
abbrev pub cut_noted : Bool → Command → Option CutInputs → List Said
cut_noted false command inputs = []
cut_noted true command inputs = cut_said command inputs

-- what is said beside a state, where words are wanted
abbrev pub added_noted : Bool → Command → Added → List Said
added_noted false command added = []
added_noted true command added = inputs_said command added.coverage None added.cut

-- what is said beside an answer, where words are wanted
abbrev pub notes_said : Bool → Command → Run → Completed → List Said
notes_said false command run completed = []
notes_said true command run completed =
    lack_said run.job completed ++ (unnamed_said (is_some run.symbols && completed.remarks.is_unnamed)
    ++ inputs_said command completed.coverage run.job.until completed.cut)

-- These messages were given, one after the other, and nothing else.
abbrev pub HearsAll : Option (List Said) → Option (List Said) → List Said → Type 0
HearsAll old new messages = IfSome old (λ said. new ≡ Some (said ++ messages))

-- This message was given, and nothing else.
abbrev pub Hears : Option (List Said) → Option (List Said) → Said → Type 0
Hears old new message = HearsAll old new (message ∷ [])

-- It was said that the run of the command begins and then that it has ended, and nothing else.
abbrev pub HearsRun : Command → Option (List Said) → Option (List Said) → Type 0
HearsRun command old new = HearsAll old new (say.Begins command ∷ say.Ends ∷ [])
