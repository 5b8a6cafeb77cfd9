-- Whether the symbols have a name for any address that an answer shows (this project's own): a table of another build has none.
use Rattle.std.specs.Prelude.{◌&&◌, [], not, true, ℕ, Bool, List, Option, Some, None, is_some}
use Rattle.std.specs.List.{list_any}
use Rattle.htl_question.specs.Rows.{Listed}
use Rattle.htl_symbols.specs.Ranges.{Range, resolved}
use Rattle.htl_report.specs.Texts.{of_stacks}

-- the frames of the rows that are printed
abbrev pub shown_addresses : Option ℕ → Listed → List ℕ
shown_addresses = of_stacks (λ stack. stack)

-- the addresses of a row's stack, if it has one
abbrev pub addresses_of : Option (List ℕ) → List ℕ
addresses_of None = []
addresses_of (Some stack) = stack

-- a range of the symbols has the address
abbrev pub is_named : List Range → ℕ → Bool
is_named symbols address = is_some (resolved symbols address)

-- there is an address among these
abbrev pub has_some : List ℕ → Bool
has_some addresses = list_any (λ address. true) addresses

-- There are addresses, and no range of the symbols has one.
abbrev pub none_named : List Range → List ℕ → Bool
none_named symbols addresses = has_some addresses && not (list_any (is_named symbols) addresses)
