-- Which questions need the events themselves, one by one, and so aren't asked of states (this project's own).
use Rattle.std.specs.Prelude.{◌≡◌, ◌≢◌, ◌||◌, ⊤, Bool, false, [], is_some}
use Rattle.htl_command.specs.declared.command.Command.{Command}
use Rattle.htl_command.specs.declared.command.Command.TheVariants.{Question}
use Rattle.htl_command.specs.declared.question.Job.{Job}
use Rattle.htl_question.specs.Questions.{is_of_events}

-- these do, and so does an answer as of a moment
abbrev pub needs_events : Job → Bool
needs_events job = is_of_events job.question || is_some job.until

-- a question that is asked of states needs none
abbrev pub FitsStates : Command → Type 0
FitsStates (Question run) = run.states.items ≢ [] → needs_events run.job ≡ false
FitsStates other = ⊤
