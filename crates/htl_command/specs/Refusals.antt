-- Why arguments are refused.
use Rattle.std.specs.Prelude.{◌≡◌, ◌⊎◌, ◌++◌, ⊤, ℕ, Bool, true, false, List, [], ◌∷◌, None, codes, not, string_bytes}
use Rattle.std.specs.List.{list_any}
use Rattle.clap.specs.Words.{Text}
use Rattle.clap.specs.declared.error.ErrorKind.{ErrorKind}
use Rattle.clap.specs.declared.error.ErrorKind.TheVariants.{DisplayHelp, DisplayVersion}
use Rattle.htl_command.specs.Entries.{refusals}
use Rattle.htl_command.specs.Requests.{AsksNothing, asked_in, requested}
use Rattle.htl_command.specs.declared.fault.ParseFault.{ParseFault}
use Rattle.htl_command.specs.declared.fault.ParseFault.TheVariants.{Help, Usage, Memory}

-- help or the version was asked for
abbrev pub is_wish : ErrorKind → Bool
is_wish DisplayHelp = true
is_wish DisplayVersion = true
is_wish _ = false

abbrev pub is_mistake : ErrorKind → Bool
is_mistake kind = not (is_wish kind)

-- `clap` refuses the arguments for such a reason
abbrev pub HasReason : (ErrorKind → Bool) → List Text → Type 0
HasReason is_such arguments = list_any is_such (refusals arguments) ≡ true

-- the text of a usage fault: what is wrong, after `error: `, and a line feed
abbrev pub IsUsageText : List ℕ → Type 0
IsUsageText text = (why : List ℕ) × (text ≡ codes "error: " ++ (why ++ (10 ∷ [])))

-- a usage fault, which comes only with P
abbrev pub IsUsageWith : Type 0 → ParseFault → Type 0
IsUsageWith P (Help text) = ⊥
IsUsageWith P (Usage text) = P × IsUsageText (string_bytes text)
IsUsageWith P Memory = ⊤

-- The arguments ask for nothing. `clap` reports a wish for help; or it reports a mistake, or takes the arguments, of
-- which a value then breaks its rule, two can't stand together, or one is missing. Memory may be refused at any time.
abbrev pub RefusesArguments : List Text → ParseFault → Type 0
RefusesArguments arguments (Help text) = AsksNothing (requested arguments) × HasReason is_wish arguments
RefusesArguments arguments (Usage text) =
    AsksNothing (requested arguments) × (((refusals arguments ≡ []) ⊎ HasReason is_mistake arguments) × IsUsageText (string_bytes text))
RefusesArguments arguments Memory = ⊤

-- The same in a dialogue, where arguments ask for no job.
abbrev pub RefusesQuestion : List Text → ParseFault → Type 0
RefusesQuestion arguments (Help text) = (asked_in arguments ≡ None) × HasReason is_wish arguments
RefusesQuestion arguments (Usage text) =
    (asked_in arguments ≡ None) × (((refusals arguments ≡ []) ⊎ HasReason is_mistake arguments) × IsUsageText (string_bytes text))
RefusesQuestion arguments Memory = ⊤
