-- What arguments ask for follows from what `clap` says of them.
use Rattle.std.proofs.Common.{◌≡◌, ◌∙◌, true, false, refl, List, [], ◌∷◌, ◌≢◌, inl, inr, map, length, arith}
use Rattle.std.specs.Prelude.{None, Option, Some, Bool, if◌then◌else◌}
use Rattle.std.specs.List.{list_any}
use Rattle.clap.specs.Words.{Kinds, Text}
use Rattle.clap.specs.declared.error.ErrorKind.{ErrorKind}
use Rattle.htl_command.specs.Entries.{entries, refusals}
use Rattle.htl_command.specs.Refusals.{IsUsageWith, RefusesArguments, RefusesQuestion, is_mistake, is_wish}
use Rattle.htl_command.specs.Steps.{IsRefused}
use Rattle.htl_command.specs.Requests.{AsksNothing, Request, asked_in, asked_met, is_nothing, notes_in, notes_met, request_met, answers, requested}
use Rattle.htl_command.specs.Requests.{stored}
use Rattle.htl_command.specs.declared.fault.ParseFault.{ParseFault}
use Rattle.htl_command.specs.declared.fault.ParseFault.TheVariants.{Help, Usage, Memory}

-- some arguments have some texts
pub map-some : {X Y : Type 0} (f : X → Y) (xs : List X) → xs ≢ [] → map f xs ≢ []
map-some f [] some none = some refl
map-some f (x ∷ xs) some none = cc

-- no arguments ask for the stored job
pub no_arguments : {X : Type 0} (text_of : X → Text) (arguments : List X) → length arguments ≡ 0 → requested (map text_of arguments) ≡ Some (answers stored)
unfolding requested
no_arguments text_of [] none = refl
no_arguments text_of (argument ∷ more) none = absurd (omega arith)

-- and for no notes
pub no_notes : {X : Type 0} (text_of : X → Text) (arguments : List X) → length arguments ≡ 0 → notes_in (map text_of arguments) ≡ false
unfolding notes_in
no_notes text_of [] none = refl
no_notes text_of (argument ∷ more) none = absurd (omega arith)

-- arguments that `clap` takes ask for what their entries ask for
pub taken : (arguments : List Text) → arguments ≢ [] → refusals arguments ≡ [] → requested arguments ≡ request_met (entries arguments)
unfolding requested
taken [] some none = absurd (some refl)
taken (argument ∷ more) some none = rw none refl

-- arguments ask for notes where their entries do
pub taken-notes : (arguments : List Text) → arguments ≢ [] → notes_in arguments ≡ notes_met (entries arguments)
unfolding notes_in
taken-notes [] some = absurd (some refl)
taken-notes (argument ∷ more) some = refl

-- arguments that it refuses ask for nothing
refused-none : (test : ErrorKind → Bool) (arguments : List Text) → arguments ≢ [] → list_any test (refusals arguments) ≡ true → requested arguments ≡ None
unfolding requested
refused-none test [] some why = absurd (some refl)
refused-none test (argument ∷ more) some why = go (refusals (argument ∷ more)) why
  where
    go : (kinds : Kinds) → list_any test kinds ≡ true → (if is_nothing kinds then request_met (entries (argument ∷ more)) else None) ≡ None
    go [] why = let bad : false ≡ true = why in cc
    go (kind ∷ kinds) why = refl

none-nothing : (asked : Option Request) → asked ≡ None → AsksNothing asked
none-nothing asked none = rw none tt

-- the refusal of arguments that `clap` refuses is one of arguments that ask for nothing
pub refused : (arguments : List Text) (fault : ParseFault) → arguments ≢ [] → IsRefused arguments fault → RefusesArguments arguments fault
refused arguments (Help text) some why = (none-nothing (requested arguments) (refused-none is_wish arguments some why), why)
refused arguments (Usage text) some why =
    (none-nothing (requested arguments) (refused-none is_mistake arguments some why.0), (inr why.0, why.1))
refused arguments Memory some why = tt

-- arguments that it takes ask for nothing where their entries do
pub broken : (arguments : List Text) (fault : ParseFault) → arguments ≢ [] → refusals arguments ≡ []
    → IsUsageWith (AsksNothing (request_met (entries arguments))) fault → RefusesArguments arguments fault
broken arguments (Help text) some none why = absurd why
broken arguments (Usage text) some none why = (rw (taken arguments some none) why.0, (inl none, why.1))
broken arguments Memory some none why = tt

-- ---- the same of a question of a dialogue

-- a line of a dialogue that `clap` takes asks for what its entries ask for
pub asked_taken : (arguments : List Text) → refusals arguments ≡ [] → asked_in arguments ≡ asked_met (entries arguments)
unfolding asked_in
asked_taken arguments none = rw none refl

asked-none : (test : ErrorKind → Bool) (arguments : List Text) → list_any test (refusals arguments) ≡ true → asked_in arguments ≡ None
unfolding asked_in
asked-none test arguments why = go (refusals arguments) why
  where
    go : (kinds : Kinds) → list_any test kinds ≡ true → (if is_nothing kinds then asked_met (entries arguments) else None) ≡ None
    go [] why = let bad : false ≡ true = why in cc
    go (kind ∷ kinds) why = refl

-- the refusal of a line that `clap` refuses is one of a line that asks for nothing
pub asked_refused : (arguments : List Text) (fault : ParseFault) → IsRefused arguments fault → RefusesQuestion arguments fault
asked_refused arguments (Help text) why = (asked-none is_wish arguments why, why)
asked_refused arguments (Usage text) why = (asked-none is_mistake arguments why.0, (inr why.0, why.1))
asked_refused arguments Memory why = tt

-- a line that `clap` takes and whose entries ask for nothing is refused as one that asks for nothing
pub asked_broken : (arguments : List Text) (fault : ParseFault) → refusals arguments ≡ []
    → IsUsageWith (asked_met (entries arguments) ≡ None) fault → RefusesQuestion arguments fault
asked_broken arguments (Help text) none why = absurd why
asked_broken arguments (Usage text) none why = (asked_taken arguments none ∙ why.0, (inl none, why.1))
asked_broken arguments Memory none why = tt
