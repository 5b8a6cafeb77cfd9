-- The records of a symbol table and the ranges that they write. This project's own.
use Rattle.std.specs.Prelude.{◌-◌, ◌^◌, ℕ, List, [], ◌∷◌, Option, Some, None, Result, Ok, Err, codes, if◌then◌else◌, nat_lt}
use Rattle.htl_numbers.specs.Numbers.{hexadecimal_number}
use Rattle.htl_symbols.specs.Ranges.{Range}
use Rattle.htl_symbols.specs.declared.fault.SymbolFault.{SymbolFault}
use Rattle.htl_symbols.specs.declared.fault.SymbolFault.TheVariants as fault

-- a record is the list of its fields
abbrev pub Record : Type 0
Record = List (List ℕ)

-- the first record of a table
unfoldable pub header : Record
header = codes "start" ∷ codes "end" ∷ codes "module" ∷ codes "name" ∷ []

-- an address as a row writes it
abbrev pub address_of : List ℕ → Option ℕ
address_of text = hexadecimal_number (2 ^ 64 - 1) text

-- the range from one address up to another
abbrev pub range_between : ℕ → Option ℕ → Option ℕ → List ℕ → List ℕ → Result Range SymbolFault
range_between row (Some start) (Some end) m n =
    if nat_lt start end then Ok (record { start = start; end = end; «module» = m; name = n }) else Err (fault.EmptyRange row)
range_between row (Some start) None m n = Err (fault.Number row)
range_between row None end m n = Err (fault.Number row)

-- the range that a record writes, or its first fault; the record is given with its number
unfoldable pub range_of_row : ℕ × Record → Result Range SymbolFault
range_of_row (row, start ∷ end ∷ m ∷ n ∷ []) = range_between row (address_of start) (address_of end) m n
range_of_row (row, _) = Err (fault.Fields row)
