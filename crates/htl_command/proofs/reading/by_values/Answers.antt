-- No value that is read before the one that is refused breaks its rule.
use Rattle.std.proofs.Common.{◌≡◌, ◌∙◌, ℕ, List, [], ◌∷◌, ◌++◌, refl, sym, ap}
use Rattle.std.specs.Prelude.{None, Option, Some, find, option_map}
use Rattle.std.specs.Option.{option_or}
use Rattle.std.proofs.lemmas.List.Folds.{find-append}
use Rattle.std.proofs.lemmas.Result.{err_from_is_err_and}
use Rattle.clap.specs.Words.{Row}
use Rattle.htl_command.specs.Commands.{question_row}
use Rattle.htl_command.specs.Options.{optional}
use Rattle.htl_command.specs.Requests.{setting_of, workers}
use Rattle.htl_command.specs.Steps.{IsFirstBroken, Names, breaks_rule, entries_of}
use Rattle.htl_command.specs.Values.{count_in, moment_in}
use Rattle.htl_command.specs.declared.names.CommandOption.{CommandOption}
use Rattle.htl_command.specs.declared.names.CommandOption.TheVariants.{Top, Until, Workers}
use Rattle.htl_command.specs.declared.question.Moment.{Moment}
use Rattle.htl_command.specs.declared.question.Setting.{Setting}
use Rattle.htl_command.specs.declared.no_job.InvalidValue.{InvalidValue}
use Rattle.htl_command.proofs.reading.by_values.Goals as goal

-- the first that breaks its rule is the first of more
own_first : (rows : List Row) (own more : List CommandOption) (refused : InvalidValue) → IsFirstBroken rows own refused
    → IsFirstBroken rows (own ++ more) refused
own_first rows own more refused first =
    (first.0, find-append (breaks_rule rows) own more ∙ ap (λ f. option_or f (find (breaks_rule rows) more)) first.1)

-- where none does, it is the first of those that follow
then_later : (rows : List Row) (own more : List CommandOption) → find (breaks_rule rows) own ≡ None
    → find (breaks_rule rows) (own ++ more) ≡ find (breaks_rule rows) more
then_later rows own more none =
    find-append (breaks_rule rows) own more ∙ ap (λ f. option_or f (find (breaks_rule rows) more)) none

-- a value that is mapped to another one is there
some_before : {X Y : Type 0} (f : X → Y) (o : Option X) (y : Y) → Some y ≡ option_map f o → (x : X) × (Some x ≡ o)
some_before f None y is = absurd (cc is)
some_before f (Some x) y is = (x, refl)

none_before : {X Y : Type 0} (f : X → Y) (o : Option X) → None ≡ option_map f o → None ≡ o
none_before f None is = refl
none_before f (Some x) is = absurd (cc is)

named : (rows : List Row) (wanted : CommandOption) (refused : InvalidValue) → Names wanted rows refused → Names refused.option rows refused
named rows wanted refused names = record { option = refl; given = rw (names.option) (names.given) }

-- the options after the question's own
abbrev later : List CommandOption
later = Workers ∷ Until ∷ Top ∷ []

workers_broken : (rows : List Row) → None ≡ workers rows → find (breaks_rule rows) later ≡ Some Workers
workers_broken rows is = rw (← is) refl

until_broken : (rows : List Row) (n : ℕ) → Some n ≡ workers rows → None ≡ optional moment_in Until rows
    → find (breaks_rule rows) later ≡ Some Until
until_broken rows n is none = rw (← is, ← none) refl

top_broken : (rows : List Row) (n : ℕ) (u : Option Moment) → Some n ≡ workers rows → Some u ≡ optional moment_in Until rows
    → None ≡ optional count_in Top rows → find (breaks_rule rows) later ≡ Some Top
top_broken rows n u is fits none = rw (← is, ← fits, ← none) refl

-- there is a setting where there are workers
some_workers : (rows : List Row) (s : Setting) → Some s ≡ setting_of rows → (n : ℕ) × (Some n ≡ workers rows)
some_workers rows s is = some_before _ (workers rows) s is

pub returns-in_err-question-clause-err : goal.returns-in_err-question-clause-err
returns-in_err-question-clause-err c =
    let p = err_from_is_err_and c.from_residual.result c.from_residual.ensures.1 in
    rw (p.1, p.2) (own_first (entries_of c.args.entries.now) (question_row c.args.name).options later
    c.in_err-question.field-0.0 c.in_err-question.ensures.err)

pub returns-in_err-setting-clause-err : goal.returns-in_err-setting-clause-err
returns-in_err-setting-clause-err c =
    let p = err_from_is_err_and c.from_residual-in_err-setting.result c.from_residual-in_err-setting.ensures.1 in
    let rows = entries_of c.args.entries.now in
    let refused = c.in_err-setting.field-0.0 in
    let names = c.in_err-setting.ensures.err in
    rw (p.1, p.2) (
      named rows Workers refused names,
      then_later rows (question_row c.args.name).options later c.in_ok-question.ensures.none
          ∙ workers_broken rows (none_before _ (workers rows) c.in_err-setting.ensures.ok) ∙ ap (λ o. Some o) (sym names.option),
    )

pub returns-in_err-until-clause-err : goal.returns-in_err-until-clause-err
returns-in_err-until-clause-err c =
    let p = err_from_is_err_and c.from_residual-in_err-until.result c.from_residual-in_err-until.ensures.1 in
    let rows = entries_of c.args.entries.now in
    let refused = c.in_err-until.field-0.0 in
    let names = c.in_err-until.ensures.err in
    let workers = some_workers rows c.in_ok-setting.field-0 c.in_ok-setting.ensures.ok in
    rw (p.1, p.2) (
      named rows Until refused names,
      then_later rows (question_row c.args.name).options later c.in_ok-question.ensures.none
          ∙ until_broken rows workers.0 workers.1 c.in_err-until.ensures.ok ∙ ap (λ o. Some o) (sym names.option),
    )

pub returns-in_err-top-clause-err : goal.returns-in_err-top-clause-err
returns-in_err-top-clause-err c =
    let p = err_from_is_err_and c.from_residual-in_err-top.result c.from_residual-in_err-top.ensures.1 in
    let rows = entries_of c.args.entries.now in
    let refused = c.in_err-top.field-0.0 in
    let names = c.in_err-top.ensures.err in
    let workers = some_workers rows c.in_ok-setting.field-0 c.in_ok-setting.ensures.ok in
    rw (p.1, p.2) (
      named rows Top refused names,
      then_later rows (question_row c.args.name).options later c.in_ok-question.ensures.none
          ∙ top_broken rows workers.0 c.in_ok-until.field-0 workers.1 c.in_ok-until.ensures.ok c.in_err-top.ensures.ok
          ∙ ap (λ o. Some o) (sym names.option),
    )
