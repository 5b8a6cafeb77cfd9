-- The program that `clap` is given is the one that is wanted, and what it says of a command line is said of this program.
use Rattle.std.proofs.Common.{◌≡◌, ◌∙◌, ap, true, false, refl, List, [], ◌∷◌, ◌⊎◌, inl, inr, sym}
use Rattle.std.specs.Prelude.{Bool, ◌||◌}
use Rattle.std.specs.List.{list_any}
use Rattle.clap.specs.Words.{AddsSubcommand, App, HasKind, HasMatchesOf, IsAmong, Kinds, Text, app_of, fault_of}
use Rattle.clap.specs.Words.{is_simple, is_simple_and_free, kind_of, subcommand_of, subcommand_rows_of, with_subcommand}
use Rattle.clap.specs.declared.builder.Command.{Command}
use Rattle.clap.specs.declared.builder.Command.TheViews.{out-Command as fields_of}
use Rattle.clap.specs.declared.error.Error.{Error}
use Rattle.clap.specs.declared.error.ErrorKind.{ErrorKind}
use Rattle.clap.specs.declared.error.ErrorKind.TheVariants.{OutOfMemory}
use Rattle.clap.specs.declared.parser.ArgMatches.{ArgMatches}
use Rattle.clap.proofs.OnLiterals.{clap_on_literals}
use Rattle.htl_command.specs.Entries.{entries, hleak_app, refusals}
use Rattle.htl_command.specs.Refusals.{is_mistake, is_wish}
use Rattle.htl_command.specs.Steps.{IsRefused, Describes, Reports}
use Rattle.htl_command.specs.declared.fault.ParseFault.{ParseFault}
use Rattle.htl_command.specs.declared.fault.ParseFault.TheVariants.{Help, Usage, Memory}

-- a command that gained a subcommand
pub added : (old sub new : Command) (a : App) → AddsSubcommand old sub new → Describes a sub → (fields_of old).has_globals ≡ false
    → Describes (with_subcommand (app_of old) a.top) new
added old sub new a adds same local = record {
  app = adds.shape same.local ∙ ap (λ (b : App). with_subcommand (app_of old) b.top) same.app;
  local = rw (adds.globals, local, same.local) refl;
}

-- the program is one of which `clap` says the matches and the refusals exactly
is_free : is_simple_and_free hleak_app ≡ true
unfolding clap_on_literals hleak_app
is_free = refl

is_exact : is_simple hleak_app ≡ true
unfolding clap_on_literals hleak_app
is_exact = refl

-- the matches are the entries of the arguments
pub matches-entries : (a : App) (arguments : List Text) (m : ArgMatches) → a ≡ hleak_app → HasMatchesOf a arguments m
    → subcommand_rows_of m ≡ entries arguments
unfolding entries
matches-entries a arguments m same matches = (matches (ap is_simple same ∙ is_exact)).1 ∙ ap (λ b. subcommand_of b arguments) same

-- arguments that are taken have no refusal
pub taken-refusals : (a : App) (arguments : List Text) → a ≡ hleak_app → (is_simple_and_free a ≡ true → fault_of a arguments ≡ [])
    → refusals arguments ≡ []
unfolding refusals
taken-refusals a arguments same none = ap (λ b. fault_of b arguments) (sym same) ∙ none (ap is_simple_and_free same ∙ is_free)

-- an error's kind is a refusal, or out of memory
refused-kind : (a : App) (arguments : List Text) (error : Error) → a ≡ hleak_app
    → (is_simple_and_free a ≡ true → HasKind (fault_of a arguments) error) → (kind_of error ≡ OutOfMemory) ⊎ IsAmong (kind_of error) (refusals arguments)
unfolding refusals
refused-kind a arguments error same has =
    rw same at (has (ap is_simple_and_free same ∙ is_free))

-- a kind among others that passes a test
list_any-among : (test : ErrorKind → Bool) (kind : ErrorKind) (kinds : Kinds) → IsAmong kind kinds → test kind ≡ true
    → list_any test kinds ≡ true
list_any-among test kind [] among pass = absurd among
list_any-among test kind (k ∷ ks) (inl same) pass = rw (← same, pass) refl
list_any-among test kind (k ∷ ks) (inr later) pass = either (test k) (list_any-among test kind ks later pass)
  where
    either : (b : Bool) → list_any test ks ≡ true → (b || list_any test ks) ≡ true
    either true rest = refl
    either false rest = rest

-- what a fault reports of such an error
pub refused-arguments : (a : App) (arguments : List Text) (error : Error) (fault : ParseFault) → a ≡ hleak_app
    → (is_simple_and_free a ≡ true → HasKind (fault_of a arguments) error) → Reports (kind_of error) fault → IsRefused arguments fault
refused-arguments a arguments error fault same has reports = go fault (refused-kind a arguments error same has) reports
  where
    go : (fault : ParseFault) → (kind_of error ≡ OutOfMemory) ⊎ IsAmong (kind_of error) (refusals arguments)
        → Reports (kind_of error) fault → IsRefused arguments fault
    go (Help text) (inl memory) reports = let bad : false ≡ true = rw memory at reports in cc
    go (Help text) (inr among) reports = list_any-among is_wish (kind_of error) (refusals arguments) among reports
    go (Usage text) (inl memory) reports = absurd (reports.1.0 memory)
    go (Usage text) (inr among) reports = (list_any-among is_mistake (kind_of error) (refusals arguments) among reports.0, reports.1.1)
    go Memory why reports = tt
