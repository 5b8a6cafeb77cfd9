-- What the code holds of a table, and the ranges that it stands for.
use Rattle.std.specs.Prelude.{◌≡◌, ◌≤◌, ◌<◌, ◌⊎◌, ℕ, Contains, List, map, string_bytes}
use Rattle.htl_symbols.specs.declared.row.Row.{Row}
use Rattle.htl_symbols.specs.declared.symbols.Symbol.{Symbol}
use Rattle.htl_symbols.specs.Ranges.{Range}

-- an entry of a table in memory
abbrev pub range_of : ℕ × Symbol → Range
range_of e = record { start = e.0; end = e.1.end; «module» = string_bytes e.1.module; name = string_bytes e.1.name }

-- all entries
abbrev pub ranges_of : List (ℕ × Symbol) → List Range
ranges_of entries = map range_of entries

-- a row that was read
abbrev pub row_range : Row → Range
row_range r = record { start = r.start; end = r.end; «module» = r.module.now; name = r.name.now }

-- of the ranges of a table that begin at or before the address, r is the last
pub record IsLastBegun (table : List Range) (address : ℕ) (r : Range) : Type 0 where
  pub listed : Contains table r
  pub filled : r.start < r.end
  pub begun : r.start ≤ address
  pub last : (q : Range) → Contains table q → q.start ≤ address → (q ≡ r) ⊎ (q.end ≤ r.start)
