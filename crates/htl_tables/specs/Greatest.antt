-- What a table of greatest sequences has at a process.
use Rattle.std.specs.Prelude.{◌≡◌, ℕ, ◌<◌, List}
use Rattle.std.specs.Option.{unwrap_or}
use Rattle.std.specs.Ordering.{nat_cmp}
use Rattle.std.specs.FinMap.Entries.{find}
use Rattle.htl_sorted.specs.Entries.{entries}

-- rows, each as a process with its sequence
abbrev pub sequences : List (ℕ × ℕ) → List (ℕ × ℕ)
sequences rows = entries (λ row. row.0) (λ row. row.1) rows

-- the sequence that a table has for a process, 0 where it has none
abbrev pub sequence_at : List (ℕ × ℕ) → ℕ → ℕ
sequence_at rows process = unwrap_or (find nat_cmp process (sequences rows)) 0

-- the process of the one row is below that of the other
abbrev pub HasLowerProcess : ℕ × ℕ → ℕ × ℕ → Type 0
HasLowerProcess a b = a.0 < b.0

-- the table has the sequence for the process
pub record HasSequence (rows : List (ℕ × ℕ)) (row : ℕ × ℕ) : Type 0 where
  pub positive : 0 < row.1
  pub is : sequence_at rows row.0 ≡ row.1
