-- A question that arguments ask of states needs no events.
use Rattle.std.proofs.Common.{◌≡◌, ◌≢◌, true, false, refl, subst, List, [], ◌∷◌, arith, length, string_bytes}
use Rattle.std.specs.Prelude.{◌==◌, ◌&&◌, ⊤, Bool, None, Option, codes, Some, if◌then◌else◌, not, option_and_then, option_map}
use Rattle.std.proofs.lemmas.Bool.{eqb-true}
use Rattle.clap.specs.Words.{Row, Text, first_of}
use Rattle.htl_command.specs.Commands.{command_named}
use Rattle.htl_command.specs.Entries.{entries, refusals}
use Rattle.htl_command.specs.Needs.{FitsStates, needs_events}
use Rattle.htl_command.specs.Requests.{IsAskedFor, Meets, Request, answers, asks, dumps, encodes, explains, folds}
use Rattle.htl_command.specs.Requests.{dialogue_setting, has_states, is_nothing, job_of, job_of_run, request_met, request_of, requested}
use Rattle.htl_command.specs.Requests.{setting_of, state_names, with_inputs, work}
use Rattle.htl_command.specs.declared.command.Command.{Command}
use Rattle.htl_command.specs.declared.command.Command.TheVariants as wish
use Rattle.htl_command.specs.declared.command.Run.{Run}
use Rattle.htl_command.specs.declared.question.Job.{Job}
use Rattle.htl_command.specs.declared.table.CommandName.{CommandName}
use Rattle.htl_command.specs.declared.table.CommandName.TheVariants as command
use Rattle.htl_command.specs.declared.table.QuestionName.{QuestionName}
use Rattle.htl_command.proofs.Arguments.{map-some}

-- what is asked of states needs no events
abbrev Fits : Request → Type 0
Fits (answers of) = of.states ≢ [] → needs_events of.job ≡ false
Fits other = ⊤

abbrev AllFit : Option Request → Type 0
AllFit None = ⊤
AllFit (Some asked) = Fits asked

-- names that there are have a length
has_some : (names : List Text) → names ≢ [] → not (length names == 0) ≡ true
has_some [] some = absurd (some refl)
has_some (name ∷ more) some = go (length (name ∷ more) == 0) refl
  where
    go : (is : Bool) → (length (name ∷ more) == 0) ≡ is → not (length (name ∷ more) == 0) ≡ true
    go true none = let bad : length (name ∷ more) ≡ 0 = eqb-true (length (name ∷ more)) 0 none in absurd (omega arith)
    go false other = rw other refl

-- of two tests that don't both hold the second doesn't where the first does
second_fails : (first second : Bool) → (first && second) ≡ false → first ≡ true → second ≡ false
second_fails true second fails holds = fails
second_fails false second fails holds = absurd (cc holds)

-- the job of a run needs no events where there is a state
job_fits : (name : QuestionName) (rows : List Row) → AllFit (option_map (λ job. answers (with_inputs rows job)) (job_of_run name rows))
unfolding job_of_run
job_fits name rows = of_job (job_of name rows)
  where
    chosen : (job : Job) (refused : Bool) → (has_states rows && needs_events job) ≡ refused
        → AllFit (option_map (λ job. answers (with_inputs rows job)) (if refused then None else Some job))
    chosen job true is = tt
    chosen job false is = λ some. second_fails (has_states rows) (needs_events job) is (has_some (state_names rows) some)

    of_job : (found : Option Job) → AllFit (option_map (λ job. answers (with_inputs rows job))
        (option_and_then (λ job. if has_states rows && needs_events job then None else Some job) found))
    of_job None = tt
    of_job (Some job) = chosen job (has_states rows && needs_events job) refl

-- other requests are asked of no states
mapped_fit : {X : Type 0} (f : X → Request) → ((x : X) → Fits (f x)) → (found : Option X) → AllFit (option_map f found)
mapped_fit f fits None = tt
mapped_fit f fits (Some x) = fits x

request_fits : (name : CommandName) (rows : List Row) → AllFit (request_of name rows)
request_fits (command.Question name) rows = job_fits name rows
request_fits command.Explain rows = mapped_fit (λ text. explains text) (λ text. tt) (first_of (codes "code") rows)
request_fits command.Dump rows = tt
request_fits command.Encode rows = tt
request_fits command.Ask rows = mapped_fit _ (λ setting. tt) (dialogue_setting rows)
request_fits command.Fold rows = mapped_fit _ (λ setting. tt) (setting_of rows)

met_fits : (met : Option (Text × List Row)) → AllFit (request_met met)
met_fits None = tt
met_fits (Some p) = named (command_named p.0)
  where
    named : (found : Option CommandName) → AllFit (option_and_then (λ name. request_of name p.1) found)
    named None = tt
    named (Some name) = request_fits name p.1

requested_fits : (arguments : List Text) → AllFit (requested arguments)
unfolding requested
requested_fits [] = λ some. absurd (some refl)
requested_fits (argument ∷ more) = taken (is_nothing (refusals (argument ∷ more)))
  where
    taken : (is : Bool) → AllFit (if is then request_met (entries (argument ∷ more)) else None)
    taken true = met_fits (entries (argument ∷ more))
    taken false = tt

-- a question that meets a request is what was asked for
question_met : (asked : Request) (run : Run) → Meets asked (wish.Question run) → asked ≡ answers (work run)
question_met (answers of) run is = is
question_met (explains text) run is = is
question_met (dumps form files) run is = is
question_met (encodes hex files) run is = is
question_met (asks setting is_folded states files symbols) run is = is
question_met (folds setting files) run is = is

command_fits : (asked : Option Request) (of : Command) → AllFit asked → IsAskedFor asked of → FitsStates of
command_fits None of fits is = absurd is
command_fits (Some asked) (wish.Question run) fits is =
    let same : asked ≡ answers (work run) = question_met asked run is in
    let own : Fits (answers (work run)) = subst Fits same fits in
    λ some. own (map-some string_bytes run.states.items some)
command_fits (Some asked) (wish.Explain fault) fits is = tt
command_fits (Some asked) (wish.Dump form files) fits is = tt
command_fits (Some asked) (wish.Encode hex files) fits is = tt
command_fits (Some asked) (wish.Ask dialogue) fits is = tt
command_fits (Some asked) (wish.Fold setting files) fits is = tt

-- what arguments ask of states needs no events
pub asked_fits : (arguments : List Text) (of : Command) → IsAskedFor (requested arguments) of → FitsStates of
asked_fits arguments of is = command_fits (requested arguments) of (requested_fits arguments) is
