-- A table has the greatest sequence of each process, and keeps so where one is put and where two tables are joined.
use Rattle.std.proofs.Common.{◌≡◌, ◌≢◌, ℕ, suc, ◌<◌, max, List, [], ◌∷◌, length, get_or, set}
use Rattle.std.proofs.Common.{insert, Option, Some, None, refl, sym, ap, ◌∙◌, inl, inr, arith, T}
use Rattle.std.specs.Prelude.{Contains}
use Rattle.std.specs.Option.{unwrap_or}
use Rattle.std.specs.List.{AllByRecursion}
use Rattle.std.specs.Ordering.{nat_cmp, eq_by_cmp}
use Rattle.std.specs.Cmp.{nat_cmp_total}
use Rattle.std.specs.FinMap.{nat_cmp-IsAntisymmetric}
use Rattle.std.specs.FinMap.Entries.{find, put, is_sorted-put, below_all}
use Rattle.std.proofs.lemmas.Bool.{cases_Bool}
use Rattle.std.proofs.lemmas.Option.{same_Some, none-some}
use Rattle.htl_event.specs.Members.{Lists, IsRising, IsStrictOrder}
use Rattle.htl_sorted.specs.Entries.{IsSorted, IsPlace, IsGap, Each, joined_at}
use Rattle.htl_lemmas.proofs.Tests.{both_left, both_right, less, equal, lower}
use Rattle.htl_sorted.proofs.Finds.{find_put_same, find_put_other, each_put, each_found}
use Rattle.htl_sorted.proofs.Rows.{placed_row, set_row, insert_row, row_found}
use Rattle.htl_tables.specs.Greatest.{sequences, sequence_at, HasLowerProcess, HasSequence}
use Rattle.htl_tables.specs.Tables.{IsSequenceTable}

-- ---- a sequence put at a process

module _ (rows new : List (ℕ × ℕ)) (process sequence : ℕ) (made : sequences new ≡ put nat_cmp process sequence (sequences rows)) where
  -- a sequence that was put at a process is there
  pub put_here : sequence_at new process ≡ sequence
  put_here = ap (λ (es : List (ℕ × ℕ)). unwrap_or (find nat_cmp process es) 0) made
      ∙ ap (λ (o : Option ℕ). unwrap_or o 0) (find_put_same nat_cmp nat_cmp_total process sequence (sequences rows))

  -- what the table has at each other process stays
  pub put_others : (other : ℕ) → other ≢ process → sequence_at new other ≡ sequence_at rows other
  put_others other ne = ap (λ (es : List (ℕ × ℕ)). unwrap_or (find nat_cmp other es) 0) made ∙ ap (λ (o : Option ℕ). unwrap_or o 0)
      (find_put_other nat_cmp nat_cmp_total nat_cmp-IsAntisymmetric other process sequence (sequences rows) ne)

  -- a table into which a sequence above 0 was put is a table
  pub IsSequenceTable-put : IsSequenceTable rows → 0 < sequence → IsSequenceTable new
  IsSequenceTable-put table above = record {
    sorted = rw made (is_sorted-put nat_cmp nat_cmp_total process sequence (sequences rows) table.sorted);
    positive = rw made (each_put nat_cmp (λ n. 0 < n) process sequence (sequences rows) above table.positive);
  }

-- ---- at the place of a process

-- the sequence in the row at a process's place is the table's for it
pub at_place : (rows : List (ℕ × ℕ)) (process i : ℕ) (row : ℕ × ℕ) → IsPlace nat_cmp (sequences rows) process i
    → row ≡ get_or rows i row → sequence_at rows process ≡ row.1
at_place rows process i row place is =
    ap (λ (o : Option ℕ). unwrap_or o 0) (placed_row (λ r. r.0) (λ r. r.1) nat_cmp rows process i place row is)

-- a table has 0 for a process that has only a gap
pub at_gap : (rows : List (ℕ × ℕ)) (process i : ℕ) → IsGap nat_cmp (sequences rows) process i → sequence_at rows process ≡ 0
at_gap rows process i gap = ap (λ (o : Option ℕ). unwrap_or o 0) gap.value

-- setting the sequence in a process's row puts it at this process
pub raised_made : (rows : List (ℕ × ℕ)) (process sequence i : ℕ) (row : ℕ × ℕ) → IsPlace nat_cmp (sequences rows) process i
    → row ≡ get_or rows i row
    → sequences (set rows i (row.0, sequence)) ≡ put nat_cmp process sequence (sequences rows)
raised_made rows process sequence i row place is = set_row (λ r. r.0) (λ r. r.1) nat_cmp rows process i place row (row.0, sequence) is refl

-- a row inserted in a process's gap puts its sequence at this process
pub inserted_made : (rows : List (ℕ × ℕ)) (process sequence i : ℕ) → IsGap nat_cmp (sequences rows) process i
    → sequences (insert rows i (process, sequence)) ≡ put nat_cmp process sequence (sequences rows)
inserted_made rows process sequence i gap = insert_row (λ r. r.0) (λ r. r.1) nat_cmp rows process i gap (process, sequence) refl

-- a sequence that a table has is above 0
is_positive : (rows : List (ℕ × ℕ)) → IsSequenceTable rows → (process v : ℕ) → find nat_cmp process (sequences rows) ≡ Some v → 0 < v
is_positive rows table process v found = each_found nat_cmp (λ n. 0 < n) process v (sequences rows) table.positive found

-- ---- joined tables

-- joining what two tables have with the greater of both, and 0 for nothing, gives the greater
pub joined-max : (a b : Option ℕ) → unwrap_or (joined_at max a b) 0 ≡ max (unwrap_or a 0) (unwrap_or b 0)
joined-max None None = refl
joined-max None (Some y) = omega arith
joined-max (Some x) None = omega arith
joined-max (Some x) (Some y) = refl

each_row : (P : ℕ → Type 0) (rows : List (ℕ × ℕ)) → ((i : ℕ) (row : ℕ × ℕ) → i < length rows → row ≡ get_or rows i row → P row.1)
    → Each P (sequences rows)
each_row P [] f = tt
each_row P (row ∷ rows) f = (f 0 row (omega arith) refl, each_row P rows (λ i r lt is. f (suc i) r (omega arith) is))

joined_above : (a b : Option ℕ) (v : ℕ) → ((x : ℕ) → a ≡ Some x → 0 < x) → ((y : ℕ) → b ≡ Some y → 0 < y)
    → joined_at max a b ≡ Some v → 0 < v
joined_above None b v pa pb e = pb v e
joined_above (Some x) None v pa pb e = pa v e
joined_above (Some x) (Some y) v pa pb e =
    let above = pa x refl in
    let is : max x y ≡ v = same_Some (max x y) v e in
    omega (arith, above, is)

-- rows with the greater of two tables' sequences at each process are a table
pub IsSequenceTable-joined : (rows left right : List (ℕ × ℕ)) → IsSorted nat_cmp (sequences rows) → IsSequenceTable left → IsSequenceTable right
    → ((process : ℕ) → find nat_cmp process (sequences rows)
    ≡ joined_at max (find nat_cmp process (sequences left)) (find nat_cmp process (sequences right))) → IsSequenceTable rows
IsSequenceTable-joined rows left right sorted tl tr values = record {
  sorted = sorted;
  positive = each_row (λ n. 0 < n) rows (λ i row lt is.
      joined_above (find nat_cmp row.0 (sequences left)) (find nat_cmp row.0 (sequences right)) row.1 (is_positive left tl row.0)
      (is_positive right tr row.0)
      (sym (values row.0) ∙ row_found (λ r. r.0) (λ r. r.1) nat_cmp_total rows sorted i row lt is));
}

-- ---- the rows show the map

-- the order of rows by process is strict
pub HasLowerProcess-strict : IsStrictOrder HasLowerProcess
HasLowerProcess-strict = record { irreflexive = λ a lt. omega (arith, lt); transitive = λ a b c lt lu. omega (arith, lt, lu) }

below_rising : (row : ℕ × ℕ) (rows : List (ℕ × ℕ)) → T (below_all nat_cmp row.0 (sequences rows))
    → AllByRecursion (HasLowerProcess row) rows
below_rising row [] h = tt
below_rising row (next ∷ rows) h =
    (lower row.0 next.0 (less (nat_cmp row.0 next.0) (both_left _ _ h)), below_rising row rows (both_right _ _ h))

rows_rising : (rows : List (ℕ × ℕ)) → IsSorted nat_cmp (sequences rows) → IsRising HasLowerProcess rows
rows_rising [] sorted = tt
rows_rising (row ∷ rows) sorted = (below_rising row rows (both_left _ _ sorted), rows_rising rows (both_right _ _ sorted))

row_there : (rows : List (ℕ × ℕ)) → IsSequenceTable rows → (row : ℕ × ℕ) → Contains rows row → HasSequence rows row
row_there rows table row (i, lt, is) =
    let found = row_found (λ (r : ℕ × ℕ). r.0) (λ (r : ℕ × ℕ). r.1) nat_cmp_total rows table.sorted i row lt (sym is) in
    record { positive = is_positive rows table row.0 row.1 found; is = ap (λ (o : Option ℕ). unwrap_or o 0) found }

found_row : (rows : List (ℕ × ℕ)) (process sequence : ℕ) → find nat_cmp process (sequences rows) ≡ Some sequence
    → Contains rows (process, sequence)
found_row [] process sequence found = absurd (none-some sequence found)
found_row (row ∷ rows) process sequence found =
    elim (cases_Bool (eq_by_cmp nat_cmp process row.0)) [
      | inl t ↦
          let key : row.0 ≡ process = sym (nat_cmp-IsAntisymmetric process row.0 (equal (nat_cmp process row.0) t)) in
          let value : row.1 ≡ sequence = same_Some row.1 sequence (rw t at found) in
          (0, omega arith, ap (λ (p : ℕ). (p, row.1)) key ∙ ap (λ (s : ℕ). (process, s)) value)
      | inr f ↦ let there = found_row rows process sequence (rw f at found) in (suc there.0, omega (arith, there.1), there.2)
    ]

some_from : (o : Option ℕ) (v : ℕ) → 0 < v → unwrap_or o 0 ≡ v → o ≡ Some v
some_from None v above e = absurd (omega (arith, above, e))
some_from (Some x) v above e = ap (λ (w : ℕ). Some w) e

-- the rows of a table list each process's sequence, by process
pub rows_listed : (rows : List (ℕ × ℕ)) → IsSequenceTable rows → Lists HasLowerProcess (HasSequence rows) rows
rows_listed rows table = record {
  rising = rows_rising rows table.sorted;
  members = λ row. (
    row_there rows table row,
    λ kept.
        found_row rows row.0 row.1 (some_from (find nat_cmp row.0 (sequences rows)) row.1 kept.positive kept.is),
  );
}
