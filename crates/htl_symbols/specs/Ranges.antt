-- A symbol table as a list of ranges of addresses. This project's own.
use Rattle.std.specs.Prelude.{◌≤◌, ◌<◌, ◌-◌, ◌&&◌, ℕ, All, AllPairs, Bool, List, Option, find, nat_le, nat_lt, option_map}

-- the addresses from `start` up to `end`, which is exclusive, and their names
pub record Range : Type 0 where
  pub start : ℕ
  pub end : ℕ
  pub «module» : List ℕ
  pub name : List ℕ

-- an address is in a range
abbrev pub has : ℕ → Range → Bool
has address r = nat_le r.start address && nat_lt address r.end

-- the module, the name and the offset from the start of the range that has the address
abbrev pub resolved : List Range → ℕ → Option (List ℕ × List ℕ × ℕ)
resolved table address = option_map (λ r. (r.module, r.name, address - r.start)) (find (has address) table)

-- a range has an address in common with those from `start` up to `end`, where neither is empty
abbrev pub meets : ℕ → ℕ → Range → Bool
meets start end r = nat_lt r.start end && nat_lt start r.end

-- two ranges have an address in common
abbrev pub overlap : Range → Range → Bool
overlap a b = meets a.start a.end b

-- ranges in rising order, none empty and no two with a common address
pub record IsTable (table : List Range) : Type 0 where
  pub filled : All (λ r. r.start < r.end) table
  pub rising : AllPairs (λ a b. a.end ≤ b.start) table
