-- What the program does with its arguments (this project's own).
use Rattle.std.specs.Prelude.{◌≡◌, ◌⊎◌, ◌∷◌, [], ◌&&◌, ◌||◌, ⊤, not, ℕ, Bool, true, false, List, Option, Some}
use Rattle.std.specs.Prelude.{IfErr, Result, Ok, Err, String, string_bytes}
use Rattle.std.specs.Io.KnownBytes.{Appends}
use Rattle.htl_command.specs.Refusals.{IsUsageWith, RefusesArguments}
use Rattle.htl_command.specs.Requests.{IsAskedFor, notes_in, requested}
use Rattle.htl_command.specs.declared.command.Run.{Run}
use Rattle.htl_command.specs.declared.command.Command.{Command}
use Rattle.htl_command.specs.declared.command.Command.TheVariants as wish
use Rattle.htl_command.specs.declared.command.CommandLine.{CommandLine}
use Rattle.htl_command.specs.declared.command.Dialogue.{Dialogue}
use Rattle.htl_command.specs.declared.fault.ParseFault.{ParseFault}
use Rattle.htl_command.specs.declared.fault.ParseFault.TheVariants.{Help, Usage, Memory}
use Rattle.htl_command.specs.declared.question.InputForm.{InputForm}
use Rattle.htl_command.specs.declared.question.Setting.{Setting}
use Rattle.htl_device.specs.Devices.{AppendsPrefix}
use Rattle.htl_device.specs.States.{SinkState, SourceState, fresh}
use Rattle.htl_inputs.specs.declared.cuts.CutInputs.{CutInputs}
use Rattle.htl_inputs.specs.declared.fault.RunFault.{RunFault}
use Rattle.htl_inputs.specs.declared.fault.RunFault.TheVariants as faults
use Rattle.htl_convert.specs.Dumps.{IsDumpedFrom}
use Rattle.htl_convert.specs.Encodings.{IsEncodedFrom}
use Rattle.htl_dialogue.specs.Notes.{OwnNote}
use Rattle.htl_dialogue.specs.declared.dialogue.Conversed.{Conversed}
use Rattle.htl_dialogue.specs.declared.dialogue.DialogueFault.{DialogueFault}
use Rattle.htl_dialogue.specs.declared.dialogue.DialogueFault.TheVariants as dialogues
use Rattle.htl_main.specs.Origins.{by_fault}
use Rattle.htl_main.specs.StateRuns.{IsFoldedFrom}
use Rattle.htl_main.specs.declared.completed.Completed.{Completed}
use Rattle.htl_main.specs.declared.loading.adding.Added.{Added}
use Rattle.htl_main.specs.declared.refused.Refused.{Refused}
use Rattle.htl_world.specs.Worlds.{IsAsked, WorldState, change, for_questions}
use Rattle.htl_ask.specs.Asking.{before_dialogue}
use Rattle.htl_ask.specs.Outcomes.{IsConversed, Talk, talk}
use Rattle.htl_ask.specs.declared.ask_fault.AskFault.{AskFault}
use Rattle.htl_ask.specs.declared.ask_fault.AskFault.TheVariants as asks
use Rattle.htl_program.specs.Opened.{IsUntouched, Reach}
use Rattle.htl_program.specs.Outcomes.{EndsQuestion, IsConverted}
use Rattle.htl_program.specs.Messages.{Hears, HearsAll, HearsRun, Said, added_noted, alone, cut_noted, fault_said, notes_said}
use Rattle.htl_program.specs.Messages.{stop_said}
use Rattle.htl_program.specs.Statuses.{conversion_status, dialogue_status, end_status}
use Rattle.htl_program.specs.Words.{explained}
use Rattle.htl_program.specs.declared.console.Console.{Console}
use Rattle.htl_program.specs.declared.saying.message.Message.TheVariants as say

-- what was written and said: what is known of the output, whether a write to it failed because its reader has gone, and what a person heard
pub record Told : Type 0 where
  pub out : SinkState
  pub reader_gone : Bool
  pub heard : Option (List Said)

abbrev pub told : {O P : Type 0} → (O → SinkState) → (O → Bool) → (P → Option (List Said)) → Console O P → Told
told state has_lost_reader heard console = record {
  out = state console.out;
  reader_gone = has_lost_reader console.out;
  heard = heard console.person;
}

-- A failed write goes unsaid where a person watches and the output's reader has gone, as after `head`, and nowhere else.
abbrev pub is_quiet : Bool → Told → Bool
is_quiet watches new = watches && new.reader_gone

abbrev pub is_unsaid : Bool → RunFault → Bool
is_unsaid quiet faults.Write = quiet
is_unsaid quiet reported = false

-- the same where the replies of a dialogue stopped
abbrev pub is_stop_unsaid : Bool → DialogueFault → Bool
is_stop_unsaid quiet dialogues.Write = quiet
is_stop_unsaid quiet stopped = false

-- nothing is said (`true`), or these messages
abbrev pub HearsUnless : Bool → Option (List Said) → Option (List Said) → List Said → Type 0
HearsUnless true old new messages = new ≡ old
HearsUnless false old new messages = HearsAll old new messages

-- The fault that ended a run is said, once, and in words where these are wanted; a failed write may go unsaid.
abbrev pub SaysFault : Bool → Bool → Command → Refused → Option (List Said) → Option (List Said) → Type 0
SaysFault quiet in_words command refused old new =
    HearsUnless (is_unsaid quiet refused.fault) old new (fault_said in_words command refused)

-- A run of a command, as a person meets it: it ended so, and this is its status. It was said that the run begins and that it has ended, and
-- then how.
pub record IsPerformed {E : Type 0} (Ends : E → Type 0) (status_of : E → ℕ) (Says : E → Option (List Said) → Option (List Said) → Type 0)
    (command : Command) (old new : Option (List Said)) (status : ℕ) : Type 0 where
  pub ended : E
  pub is : Ends ended
  pub status_is : status ≡ status_of ended
  pub after_run : Option (List Said)
  pub hears_run : HearsRun command old after_run
  pub said : Says ended after_run new

-- the same of a run that reads no lines of a dialogue, in a world
abbrev pub Performs : {E : Type 0} → Reach → (E → Type 0) → (E → ℕ) → (E → Option (List Said) → Option (List Said) → Type 0)
    → Command → Told → Told → ℕ → Type 0
Performs reach Ends status_of Says command old new status =
    (reach.after.questions ≡ reach.before.questions) × IsPerformed Ends status_of Says command old.heard new.heard status

-- how a question's end is said
abbrev pub SaysAnswer : Bool → Bool → Command → Run → Result Completed Refused → Option (List Said) → Option (List Said) → Type 0
SaysAnswer quiet in_words command run (Ok completed) old new = HearsAll old new (notes_said in_words command run completed)
SaysAnswer quiet in_words command run (Err refused) old new = SaysFault quiet in_words command refused old new

abbrev pub DoesAnswer : Bool → Bool → Reach → Told → Told → Command → Run → ℕ → Type 0
DoesAnswer watches in_words reach old new command run status =
    Performs reach (EndsQuestion reach.world reach.after.files run old.out new.out) (λ ended. end_status run.job.exit_code (by_fault ended))
    (SaysAnswer (is_quiet watches new) in_words command run) command old new status

-- how a conversion's end is said: nothing, if it ended well
abbrev pub SaysConversion : {S : Type 0} → Bool → Bool → Command → Result S RunFault → Option (List Said) → Option (List Said) → Type 0
SaysConversion quiet in_words command (Ok done) old new = new ≡ old
SaysConversion quiet in_words command (Err reported) old new = SaysFault quiet in_words command (alone reported) old new

-- the same of a dump: which inputs end within a segment, where they may
abbrev pub SaysDump : Bool → Bool → Command → Result (Option CutInputs) RunFault → Option (List Said) → Option (List Said) → Type 0
SaysDump quiet in_words command (Ok cut) old new = HearsAll old new (cut_noted in_words command cut)
SaysDump quiet in_words command (Err reported) old new = SaysFault quiet in_words command (alone reported) old new

abbrev pub DoesDump : {A : Type 0} → Bool → Bool → Reach → Told → Told → Command → InputForm → List (String A) → ℕ → Type 0
DoesDump watches in_words reach old new command form files status =
    Performs reach (IsConverted (λ fault. fault) (IsDumpedFrom form) reach.world reach.after.files files old.out new.out) conversion_status
    (SaysDump (is_quiet watches new) in_words command) command old new status

abbrev pub DoesEncode : {A : Type 0} → Bool → Bool → Reach → Told → Told → Command → Bool → List (String A) → ℕ → Type 0
DoesEncode watches in_words reach old new command hex files status =
    Performs reach
    (IsConverted (λ fault. fault) (IsEncodedFrom {S = Unit {0}} hex) reach.world reach.after.files files old.out new.out)
    conversion_status (SaysConversion (is_quiet watches new) in_words command) command old new status

-- the same where segments were folded: that some are missing, and which inputs end within one, where they may
abbrev pub SaysFolding : Bool → Bool → Command → Result Added Refused → Option (List Said) → Option (List Said) → Type 0
SaysFolding quiet in_words command (Ok added) old new = HearsAll old new (added_noted in_words command added)
SaysFolding quiet in_words command (Err refused) old new = SaysFault quiet in_words command refused old new

abbrev pub DoesFold : {A : Type 0} → Bool → Bool → Reach → Told → Told → Command → Setting → List (String A) → ℕ → Type 0
DoesFold watches in_words reach old new command setting files status =
    Performs reach (IsConverted alone (IsFoldedFrom setting) reach.world reach.after.files files old.out new.out)
    (λ ended. conversion_status (by_fault ended)) (SaysFolding (is_quiet watches new) in_words command) command old new status

-- A text that was asked for: it is written and nothing is said, with status 0; or its write fails, with status 5, which is said unless a
-- person watches and the output's reader has gone.
abbrev pub IsPrinted : Bool → List ℕ → Told → Told → ℕ → Type 0
IsPrinted watches bytes old new status =
    ((new.out.failed ≡ false) × (status ≡ 0) × Appends old.out.contents new.out.contents bytes × (new.heard ≡ old.heard))
    ⊎ ((new.out.failed ≡ true) × (status ≡ 5) × AppendsPrefix old.out.contents new.out.contents bytes
    × HearsUnless (is_quiet watches new) old.heard new.heard (say.Unwritten ∷ []))

-- Where the arguments give no command: help is printed, and all else is said.
abbrev pub Refuses : Bool → Told → Told → ParseFault → ℕ → Type 0
Refuses watches old new (Help help) status = IsPrinted watches (string_bytes help) old new status
Refuses watches old new (Usage why) status = (status ≡ 2) × (new.out ≡ old.out) × Hears old.heard new.heard (say.Refusal (Usage why))
Refuses watches old new Memory status = (status ≡ 6) × (new.out ≡ old.out) × Hears old.heard new.heard (say.Refusal Memory)

-- a fault is explained, unless memory is refused
abbrev pub Explains : Bool → Told → Told → List ℕ → ℕ → Type 0
Explains watches old new bytes status =
    IsPrinted watches bytes old new status
    ⊎ ((status ≡ 6) × (new.out ≡ old.out) × Hears old.heard new.heard (say.Fault (alone faults.Memory)))

-- Bytes aren't shown to a person: where they would be (`true`), the program refuses to, and else it does this.
abbrev pub OrRefuses : Bool → Bool → Reach → Told → Told → (ℕ → Type 0) → ℕ → Type 0
OrRefuses true watches reach old new Does status =
    (why : ParseFault) × IsUsageWith ⊤ why × Refuses watches old new why status × IsUntouched reach
OrRefuses false watches reach old new Does status = Does status

-- how a dialogue's end is said: nothing, if it ended well
abbrev pub SaysDialogue : {S : Type 0} → Bool → Bool → Command → Result S AskFault → Option (List Said) → Option (List Said) → Type 0
SaysDialogue quiet in_words command (Ok done) old new = new ≡ old
SaysDialogue quiet in_words command (Err (asks.Run refused)) old new = SaysFault quiet in_words command refused old new
SaysDialogue quiet in_words command (Err (asks.Dialogue stopped)) old new =
    HearsUnless (is_stop_unsaid quiet stopped) old new (stop_said in_words stopped)

-- The speaker of a dialogue, before it and after. `told`, `noted` and `left` say how a note, the wish for notes, and the end of the replies
-- change the speaker. Whether wrong lines count is said after.
pub record Spoken (S : Type 0) : Type 0 where
  pub told : S → OwnNote → S
  pub noted : S → Bool → S
  pub left : S → Bool → S
  pub counts_wrong : Bool
  pub before : S
  pub after : S

abbrev pub spoken : {S : Type 0} → (S → OwnNote → S) → (S → Bool → S) → (S → Bool → S) → (S → Bool) → S → S → Spoken S
spoken told noted left counts_wrong before after = record {
  told = told;
  noted = noted;
  left = left;
  counts_wrong = counts_wrong after;
  before = before;
  after = after;
}

-- what these questions, this output and this speaker, who knows whether notes are wanted and is listening by now, were before the dialogue
-- and are after it
abbrev pub talk_of : {S : Type 0} → SourceState → SourceState → Spoken S → Bool → S → Told → Told → Talk S
talk_of questions left speaker wanted listening old new =
    talk questions left old.out new.out speaker.told wanted (speaker.noted speaker.before wanted) listening

-- The lines of standard input get their replies. The speaker knows whether notes are wanted, and is given as they were when the last reply
-- had come. The lines are asked for first, and once.
pub record Converses {S : Type 0} (speaker : Spoken S) (wanted : Bool) (reach : Reach) (old new : Told) (of : Dialogue)
    (ended : Result Conversed AskFault) : Type 0 where
  pub listening : S
  pub questions : SourceState
  pub handed : reach.after.questions ≡ Some questions
  pub between : WorldState
  pub first : IsAsked reach.world.old between (for_questions ∷ [])
  pub is : IsConversed (change between reach.world.new) reach.after.files of
      (talk_of (fresh reach.world.old.known.standard) questions speaker wanted listening old new) ended
  -- Before the files are read no line is, and nothing is written or told.
  pub untouched : IfErr (before_dialogue ended) (λ refused.
      (questions ≡ fresh reach.world.old.known.standard) × (new.out ≡ old.out) × (listening ≡ speaker.noted speaker.before wanted))
  pub after : speaker.after ≡ speaker.left listening questions.ended

abbrev pub DoesConverse : {S : Type 0} → Bool → Bool → Spoken S → Reach → Told → Told → Command → Dialogue → ℕ → Type 0
DoesConverse watches in_words speaker reach old new command of status =
    IsPerformed (Converses speaker in_words reach old new of) (dialogue_status speaker.counts_wrong)
    (SaysDialogue (is_quiet watches new) in_words command) command old.heard new.heard status

-- What is done for a command, and the status with which the program ends. Whether a person sees the output is given first, then
-- whether one watches what is said, and then whether that is said in words too.
abbrev pub Does : {S : Type 0} → Bool → Bool → Bool → Spoken S → Reach → Told → Told → Command → ℕ → Type 0
Does sees watches in_words speaker reach old new (wish.Question run) status =
    DoesAnswer watches in_words reach old new (wish.Question run) run status
Does sees watches in_words speaker reach old new (wish.Explain reported) status =
    Explains watches old new (explained reported) status × IsUntouched reach
Does sees watches in_words speaker reach old new (wish.Dump form files) status =
    DoesDump watches in_words reach old new (wish.Dump form files) form files.items status
Does sees watches in_words speaker reach old new (wish.Encode hex files) status =
    OrRefuses (not hex && sees) watches reach old new
    (DoesEncode watches in_words reach old new (wish.Encode hex files) hex files.items) status
Does sees watches in_words speaker reach old new (wish.Fold setting files) status =
    OrRefuses sees watches reach old new (DoesFold watches in_words reach old new (wish.Fold setting files) setting files.items) status
Does sees watches in_words speaker reach old new (wish.Ask of) status =
    DoesConverse watches in_words speaker reach old new (wish.Ask of) of status

-- what arguments give
abbrev pub IsParsed : List (List ℕ) → Result CommandLine ParseFault → Type 0
IsParsed words (Ok line) = IsAskedFor (requested words) line.command × (line.notes ≡ notes_in words)
IsParsed words (Err why) = RefusesArguments words why

-- Only a dialogue speaks to the speaker. Beside every other command nothing is told.
abbrev pub SpeaksIn : {S : Type 0} → Command → Spoken S → Type 0
SpeaksIn (wish.Ask of) speaker = ⊤
SpeaksIn command speaker = speaker.after ≡ speaker.before

-- Words and notes are for a person who watches, and for whoever asks for notes.
abbrev pub DoesParsed : {S : Type 0} → Bool → Bool → Spoken S → Reach → Told → Told → Result CommandLine ParseFault → ℕ → Type 0
DoesParsed sees watches speaker reach old new (Ok line) status =
    Does sees watches (watches || line.notes) speaker reach old new line.command status
    × SpeaksIn line.command speaker
DoesParsed sees watches speaker reach old new (Err why) status =
    Refuses watches old new why status × IsUntouched reach × (speaker.after ≡ speaker.before)

-- The program does what its arguments ask for.
pub record Obeys {S : Type 0} (sees watches : Bool) (speaker : Spoken S) (reach : Reach) (old new : Told) (words : List (List ℕ))
    (status : ℕ) : Type 0 where
  pub parsed : Result CommandLine ParseFault
  pub is : IsParsed words parsed
  pub does : DoesParsed sees watches speaker reach old new parsed status
