-- Rows of one owner, a process or an object, made one.
use Rattle.std.specs.Prelude.{◌≡◌, ℕ, List, [], ◌∷◌, ◌++◌, Option, Some, None, if◌then◌else◌}
use Rattle.std.specs.Ordering.{nat_cmp, is_eq}
use Rattle.std.specs.FinMap.Entries.{find}
use Rattle.htl_sorted.specs.Entries.{IsSorted, entries, joined_at}

-- rows as entries of a table by owner
abbrev pub by_owner : {Row : Type 0} → (Row → ℕ) → List Row → List (ℕ × Row)
by_owner owner_of rows = entries owner_of (λ row. row) rows

-- the row, where it is of the owner
abbrev pub one_at : {Row : Type 0} → (Row → ℕ) → ℕ → Row → Option Row
one_at owner_of owner row = if is_eq (nat_cmp owner (owner_of row)) then Some row else None

-- the rows of the owner, joined
abbrev pub total_at : {Row : Type 0} → (Row → ℕ) → (Row → Row → Row) → ℕ → List Row → Option Row
total_at owner_of join owner [] = None
total_at owner_of join owner (row ∷ rows) = joined_at join (one_at owner_of owner row) (total_at owner_of join owner rows)

-- one row for each owner, in order: all that were given of it, joined
pub record AreAddedUp {Row : Type 0} (owner_of : Row → ℕ) (join : Row → Row → Row) (given rows : List Row) : Type 0 where
  pub sorted : IsSorted nat_cmp (by_owner owner_of rows)
  pub values : (owner : ℕ) → find nat_cmp owner (by_owner owner_of rows) ≡ total_at owner_of join owner given

-- what parts of the rows that stand side by side have of an owner can be joined
abbrev pub CanAddUp : {Row : Type 0} → (Row → ℕ) → (Row → Row → Row) → (Row → Row → Type 0) → List Row → Type 0
CanAddUp {Row} owner_of join can_join rows =
    (before left right after : List Row) (owner : ℕ) (x y : Row) → rows ≡ before ++ (left ++ (right ++ after))
    → total_at owner_of join owner left ≡ Some x → total_at owner_of join owner right ≡ Some y → can_join x y
