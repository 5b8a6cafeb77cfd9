-- The rows of one process are a table that has what the whole table has of it.
use Rattle.std.proofs.Common.{◌≡◌, ℕ, false, ◌==◌, ◌&&◌, List, [], ◌∷◌, Option, Some, None, refl, sym, ap, ◌∙◌, inl, inr, cond, T}
use Rattle.std.specs.Prelude.{◌≢◌, filter}
use Rattle.std.specs.Ordering.{eq_by_cmp}
use Rattle.std.specs.FinMap.Entries.{below_all}
use Rattle.std.proofs.lemmas.Bool.{cases_Bool, ne_eqb, eqb-true}
use Rattle.htl_event.specs.Events.{Event}
use Rattle.htl_event.specs.Slots.{base_of}
use Rattle.htl_event.proofs.Members.{filter-pass, filter-skip}
use Rattle.htl_event.specs.Handles.{later}
use Rattle.htl_sorted.specs.Entries.{IsSorted}
use Rattle.htl_lemmas.proofs.Tests.{both, both_left, both_right}
use Rattle.htl_tables.specs.Keys.{key_cmp, key_of, keyed}
use Rattle.htl_tables.specs.Latest.{event_at}
use Rattle.htl_tables.proofs.KeyOrder.{key_test}
use Rattle.htl_tables.proofs.ProcessRows.{is_there}

-- the later of an event and none is the event
pub later-none : (o : Option Event) → later o None ≡ o
later-none None = refl
later-none (Some x) = refl

module _ (process : ℕ) where
  below_rows : (k : ℕ × ℕ) (rows : List Event) → T (below_all key_cmp k (keyed rows))
      → T (below_all key_cmp k (keyed (filter (is_there process) rows)))
  below_rows k [] h = h
  below_rows k (row ∷ rows) h = elim (cases_Bool (is_there process row)) [
    | inl t ↦ rw (filter-pass (is_there process) row rows t) (both _ _ (both_left _ _ h) (below_rows k rows (both_right _ _ h)))
    | inr f ↦ rw (filter-skip (is_there process) row rows f) (below_rows k rows (both_right _ _ h))
  ]

  -- the rows of one process, of a sorted table, are sorted
  pub rows_sorted : (rows : List Event) → IsSorted key_cmp (keyed rows) → IsSorted key_cmp (keyed (filter (is_there process) rows))
  rows_sorted [] sorted = sorted
  rows_sorted (row ∷ rows) sorted = elim (cases_Bool (is_there process row)) [
    | inl t ↦ rw (filter-pass (is_there process) row rows t)
        (both _ _ (below_rows (key_of row) rows (both_left _ _ sorted)) (rows_sorted rows (both_right _ _ sorted)))
    | inr f ↦ rw (filter-skip (is_there process) row rows f) (rows_sorted rows (both_right _ _ sorted))
  ]

  -- a row of another process isn't found
  passed_over : (owner base : ℕ) (row : Event) (rows : List Event) → (row.process == owner) ≡ false
      → event_at (row ∷ rows) owner base ≡ event_at rows owner base
  passed_over owner base row rows f =
      let test : eq_by_cmp key_cmp (owner, base) (key_of row) ≡ false = key_test (owner, base) (key_of row)
      ∙ ap (λ b. b && base_of row.handle == base) f in
      rw test refl

  -- at each handle of the process, its rows have what the whole table has
  pub found_alike : (rows : List Event) (base : ℕ) → event_at (filter (is_there process) rows) process base ≡ event_at rows process base
  found_alike [] base = refl
  found_alike (row ∷ rows) base = elim (cases_Bool (is_there process row)) [
    | inl t ↦ rw (filter-pass (is_there process) row rows t)
        (ap (λ o. cond (eq_by_cmp key_cmp (process, base) (key_of row)) (Some row) o) (found_alike rows base))
    | inr f ↦ rw (filter-skip (is_there process) row rows f) (found_alike rows base ∙ sym (passed_over process base row rows f))
  ]

  -- at a handle of another process, the rows of the process have nothing
  pub none_of_others : (rows : List Event) (owner base : ℕ) → owner ≢ process → event_at (filter (is_there process) rows) owner base ≡ None
  none_of_others [] owner base differs = refl
  none_of_others (row ∷ rows) owner base differs = elim (cases_Bool (is_there process row)) [
    | inl t ↦
        let apart = ne_eqb row.process owner (λ e. differs (sym e ∙ eqb-true row.process process t)) in
        rw (filter-pass (is_there process) row rows t)
        (passed_over owner base row (filter (is_there process) rows) apart ∙ none_of_others rows owner base differs)
    | inr f ↦ rw (filter-skip (is_there process) row rows f) (none_of_others rows owner base differs)
  ]
