-- A row that joins the last one or comes after it keeps rows in order, and each owner has what it had with the row joined.
use Rattle.std.proofs.Common.{◌≡◌, ℕ, ◌-◌, ◌<◌, cond, List, [], ◌∷◌, ◌++◌, length, get_or, set, drop}
use Rattle.std.proofs.Common.{Some, None, refl, sym, ap, subst, ◌∙◌, arith, inl, inr}
use Rattle.std.specs.List.{insert}
use Rattle.std.specs.Cmp.{nat_cmp_total}
use Rattle.std.specs.Ordering.{nat_cmp, is_eq}
use Rattle.std.specs.FinMap.{nat_cmp-IsAntisymmetric}
use Rattle.std.specs.FinMap.Entries.{find, put, find-put, is_sorted-put}
use Rattle.std.specs.declared.cmp.Ordering.TheVariants.{Less, Equal, Greater}
use Rattle.std.proofs.lemmas.Bool.{cases_lt}
use Rattle.std.proofs.lemmas.List.{take_all, drop_all, get_or_default}
use Rattle.htl_sorted.specs.Entries.{IsSorted, IsPlace, IsGap, joined_at}
use Rattle.htl_sorted.proofs.Places.{place, gap, rising}
use Rattle.htl_sorted.proofs.Rows.{placed_row, set_row, insert_row}
use Rattle.htl_summary.specs.Totals.{by_owner, one_at}
use Rattle.htl_summary.proofs.Totals.{alone}

module _ {Row : Type 0} (key : Row → ℕ) (join : Row → Row → Row) where
  abbrev whole : Row → Row
  whole row = row

  -- what an owner has once a row was joined to that of another one
  put_joined : (es : List (ℕ × Row)) (k : ℕ) (v w : Row) → Some w ≡ joined_at join (find nat_cmp k es) (Some v) → (q : ℕ)
      → find nat_cmp q (put nat_cmp k w es) ≡ joined_at join (find nat_cmp q es) (cond (is_eq (nat_cmp q k)) (Some v) None)
  put_joined es k v w is q = find-put nat_cmp nat_cmp_total q k w es
      ∙ (elim (nat_cmp q k) as (λ r. nat_cmp q k ≡ r → cond (is_eq r) (Some w) (find nat_cmp q es)
      ≡ joined_at join (find nat_cmp q es) (cond (is_eq r) (Some v) None)) [
        | Less ↦ λ e. sym (alone key join (find nat_cmp q es))
        | Equal ↦ λ e. is ∙ ap (λ c. joined_at join (find nat_cmp c es) (Some v)) (sym (nat_cmp-IsAntisymmetric q k e))
        | Greater ↦ λ e. sym (alone key join (find nat_cmp q es))
      ] refl)

  insert_end : (rows : List Row) (z : Row) → insert rows (length rows) z ≡ rows ++ z ∷ []
  insert_end rows z = ap (λ l. l ++ z ∷ drop (length rows) rows) (take_all (length rows) rows (omega arith))
      ∙ ap (λ l. rows ++ z ∷ l) (drop_all (length rows) rows (omega arith))

  module _ (rows : List Row) (sorted : IsSorted nat_cmp (by_owner key rows)) (row : Row) where
    module _ (last : 0 < length rows → (d : Row) → nat_cmp (key (get_or rows (length rows - 1) d)) (key row) ≡ Less) where
      -- all rows come before this one
      gap_after : IsGap nat_cmp (by_owner key rows) (key row) (length rows)
      gap_after = gap key whole nat_cmp_total (key row) rows (length rows) (omega arith) below (λ j d le lt. absurd (omega (arith, le, lt)))
        where
          below : (j : ℕ) (d : Row) → j < length rows → nat_cmp (key (get_or rows j d)) (key row) ≡ Less
          below j d lt =
              elim (cases_lt j (length rows - 1)) [
                | inl before ↦ nat_cmp_total.trans (key (get_or rows j d)) (key (get_or rows (length rows - 1) d)) (key row)
                    (rising key whole nat_cmp_total rows sorted j (length rows - 1) d before (omega (arith, lt))) (last (omega (arith, lt)) d)
                | inr at ↦ let e : j ≡ length rows - 1 = omega (arith, at, lt) in rw e (last (omega (arith, lt)) d)
              ]

      pushed_is : by_owner key (rows ++ row ∷ []) ≡ put nat_cmp (key row) row (by_owner key rows)
      pushed_is = ap (by_owner key) (sym (insert_end rows row))
          ∙ insert_row key whole nat_cmp rows (key row) (length rows) gap_after row refl

      -- rows with one after them that comes behind the last are in order
      pub pushed_sorted : IsSorted nat_cmp (by_owner key (rows ++ row ∷ []))
      pushed_sorted = subst (IsSorted nat_cmp) (sym pushed_is) (is_sorted-put nat_cmp nat_cmp_total (key row) row (by_owner key rows) sorted)

      -- with a row behind the last, each owner has what it had, with the row joined
      pub pushed_value : (q : ℕ) → find nat_cmp q (by_owner key (rows ++ row ∷ []))
          ≡ joined_at join (find nat_cmp q (by_owner key rows)) (one_at key q row)
      pushed_value q = ap (find nat_cmp q) pushed_is ∙ put_joined (by_owner key rows) (key row) row row
          (ap (λ a. joined_at join a (Some row)) (sym gap_after.value)) q

    module _ (x : Row) (some : 0 < length rows) (is_x : x ≡ get_or rows (length rows - 1) x) (tied : nat_cmp (key x) (key row) ≡ Equal) where
      place_of_last : IsPlace nat_cmp (by_owner key rows) (key row) (length rows - 1)
      place_of_last = place key whole nat_cmp_total (key row) rows sorted (length rows - 1) (omega (arith, some))
          (λ d. ap (λ y. nat_cmp (key y) (key row)) (get_or_default rows (length rows - 1) d x (omega (arith, some)) ∙ sym is_x) ∙ tied)

      -- the owner of a row that ties with the last one has that
      pub last_value : find nat_cmp (key row) (by_owner key rows) ≡ Some x
      last_value = placed_row key whole nat_cmp rows (key row) (length rows - 1) place_of_last x is_x

      module _ (z : Row) (same_key : key z ≡ key x) (same_value : z ≡ join x row) where
        joined_is : by_owner key (set rows (length rows - 1) z) ≡ put nat_cmp (key row) z (by_owner key rows)
        joined_is = set_row key whole nat_cmp rows (key row) (length rows - 1) place_of_last x z is_x same_key

        -- rows whose last one this was joined to are in order
        pub joined_sorted : IsSorted nat_cmp (by_owner key (set rows (length rows - 1) z))
        joined_sorted = subst (IsSorted nat_cmp) (sym joined_is) (is_sorted-put nat_cmp nat_cmp_total (key row) z (by_owner key rows) sorted)

        -- with a row joined to the last one, each owner has what it had, with the row joined
        pub joined_value : (q : ℕ) → find nat_cmp q (by_owner key (set rows (length rows - 1) z))
            ≡ joined_at join (find nat_cmp q (by_owner key rows)) (one_at key q row)
        joined_value q = ap (find nat_cmp q) joined_is ∙ put_joined (by_owner key rows) (key row) row z
            (ap (λ v. Some v) same_value ∙ ap (λ a. joined_at join a (Some row)) (sym last_value)) q
