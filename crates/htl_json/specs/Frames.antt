-- Stacks as values: an array of frames, the innermost first.
use Rattle.std.specs.Prelude.{◌++◌, ◌∷◌, [], ℕ, List, Option, Some, None, codes, map}
use Rattle.htl_symbols.specs.Ranges.{Range, resolved}
use Rattle.json.specs.Json.{Json, array, string}
use Rattle.json.specs.Value.{items_of}
use Rattle.htl_json.specs.Records.{Field, quantity, record_of, shown_address}

unfoldable pub address_fields : ℕ → List Field
address_fields address = (codes "address", shown_address address) ∷ []

-- the module and the name of the range that has an address, and how far after its start the address is
unfoldable pub symbol_fields : List ℕ × List ℕ × ℕ → List Field
symbol_fields s = (codes "module", string s.0) ∷ (codes "name", string s.1) ∷ (codes "offset", quantity s.2) ∷ []

-- the fields of the range that has an address, or none where no range has it
abbrev pub named_fields : Option (List ℕ × List ℕ × ℕ) → List Field
named_fields None = []
named_fields (Some s) = symbol_fields s

abbrev pub frame : List Range → ℕ → Json
frame symbols address = record_of (address_fields address ++ named_fields (resolved symbols address))

unfoldable pub stack_fields : List Range → List ℕ → List Field
stack_fields symbols frames = (codes "stack", array (items_of (map (frame symbols) frames))) ∷ []
