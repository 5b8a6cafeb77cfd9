-- Which rows are those of a table.
use Rattle.std.specs.Prelude.{ℕ, ◌<◌, List}
use Rattle.std.specs.Ordering.{nat_cmp}
use Rattle.htl_event.specs.Events.{Event}
use Rattle.htl_sorted.specs.Entries.{IsSorted, Each}
use Rattle.htl_tables.specs.Keys.{key_cmp, keyed}
use Rattle.htl_tables.specs.Greatest.{sequences}

-- events in the order of their keys: each base handle of a process has one
abbrev pub IsEventTable : List Event → Type 0
IsEventTable rows = IsSorted key_cmp (keyed rows)

-- processes in order: each has one row, with a sequence above 0
pub record IsSequenceTable (rows : List (ℕ × ℕ)) : Type 0 where
  pub sorted : IsSorted nat_cmp (sequences rows)
  pub positive : Each (λ sequence. 0 < sequence) (sequences rows)
