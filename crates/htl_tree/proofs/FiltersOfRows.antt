-- The rows of a position have their slots' filters there, so that slots whose filters are missing have no rows.
use Rattle.std.proofs.Common.{◌≡◌, ◌++◌, ℕ, List, [], ◌∷◌, true, false, cond, ◌&&◌, unwrap_or, Option, reverse, refl, sym, ◌∙◌, ap, subst}
use Rattle.std.specs.Prelude.{nat_eq}
use Rattle.std.specs.List.{AllByRecursion, starts_with}
use Rattle.htl_event.specs.declared.slot.Slot.{Slot}
use Rattle.htl_event.specs.declared.slot.Count.{Count}
use Rattle.htl_event.specs.Slots.{same_slot}
use Rattle.htl_event.specs.Tallies.{zero_count, plus_count, IsPositive}
use Rattle.htl_sorted.proofs.Finds.{each_found, all_from_found}
use Rattle.htl_tree.specs.HasSlot.{has_slot}
use Rattle.htl_tree.specs.Filters.{HasFilter}
use Rattle.htl_tree.specs.Trees.{Tree, sum_where}
use Rattle.htl_tree.specs.Nodes.{Position, filters, rows, rows_at, asked_of, counts_in, IsNormal}
use Rattle.htl_tree.specs.declared.slots.Slots.{Slots}
use Rattle.htl_tree.proofs.CountAdded.{normal_here}
use Rattle.htl_tree.proofs.NodeRows.{path_cmp, path_total, rows_sorted, rows_positive, tally_rows}
use Rattle.htl_tree.proofs.Under.{same_slot_Decides}

-- all rows' slots have their filters in the number
abbrev pub RowsHaveFilters : ℕ → Tree → Type 0
RowsHaveFilters m t = AllByRecursion (λ (row : (List ℕ × Slot) × Count). HasFilter m row.0.1) t

-- the filters at a position in normal form are those of all its rows' slots
pub rows_have_filters : {A : Type 0} (n : Position A) → IsNormal n → RowsHaveFilters (filters n) (rows n)
rows_have_filters n h = all_from_found path_cmp path_total (λ k v. HasFilter (filters n) k.1) (rows n) (rows_sorted n h)
    (λ k v found. (normal_here n h).filtered k.0 k.1 (subst IsPositive
    (sym (ap (λ (o : Option Count). unwrap_or o zero_count) found) ∙ tally_rows k.0 k.1 n h)
    (each_found path_cmp IsPositive k v (rows n) (rows_positive n h) found)))

-- where no slot that is asked for has its filter there, no row is of such a slot
pub no_filter_no_rows : (m : ℕ) (slots : Slots) (path : List ℕ) (t : Tree) → RowsHaveFilters m t
    → ((s : Slot) → has_slot slots s ≡ true → HasFilter m s → ⊥) → rows_at (has_slot slots) path t ≡ []
no_filter_no_rows m slots path [] h missing = refl
no_filter_no_rows m slots path (row ∷ t) h missing = (elim (has_slot slots row.0.1) as (λ b. has_slot slots row.0.1 ≡ b
    → cond b (((row.0.1, reverse (path ++ row.0.0)), row.1) ∷ rows_at (has_slot slots) path t) (rows_at (has_slot slots) path t) ≡ []) [
      | true ↦ λ yes. absurd (missing row.0.1 yes h.0)
      | false ↦ λ no. no_filter_no_rows m slots path t h.1 missing
    ]) refl

-- where a slot's filter is missing, the sum of its counts under each path is zero
pub no_filter_no_sum : (m : ℕ) (s : Slot) (path : List ℕ) (t : Tree) → RowsHaveFilters m t → (HasFilter m s → ⊥)
    → sum_where (λ p. starts_with nat_eq p path) s t ≡ zero_count
no_filter_no_sum m s path [] h missing = refl
no_filter_no_sum m s path (row ∷ t) h missing =
    let rest : Count = sum_where (λ p. starts_with nat_eq p path) s t in
    (elim (same_slot s row.0.1) as (λ b. same_slot s row.0.1 ≡ b
    → cond (b && starts_with nat_eq row.0.0 path) (plus_count row.1 rest) rest ≡ zero_count) [
      | true ↦ λ yes. absurd (missing (subst (λ k. HasFilter m k) (sym ((same_slot_Decides s row.0.1).0 yes)) h.0))
      | false ↦ λ no. no_filter_no_sum m s path t h.1 missing
    ]) refl

-- where no slot that is asked for has its filter there, none is counted
pub no_filter_no_counts : (m : ℕ) (slots : Slots) (t : Tree) → RowsHaveFilters m t → ((s : Slot) → has_slot slots s ≡ true → HasFilter m s → ⊥)
    → asked_of slots (counts_in t) ≡ []
no_filter_no_counts m slots [] h missing = refl
no_filter_no_counts m slots (row ∷ t) h missing = (elim (has_slot slots row.0.1) as (λ b. has_slot slots row.0.1 ≡ b
    → cond b ((row.0.1, row.1) ∷ asked_of slots (counts_in t)) (asked_of slots (counts_in t)) ≡ []) [
      | true ↦ λ yes. absurd (missing row.0.1 yes h.0)
      | false ↦ λ no. no_filter_no_counts m slots t h.1 missing
    ]) refl
