-- Rows are in the order of their keys exactly where each is above the one before it.
use Rattle.std.proofs.Common.{◌≡◌, ℕ, suc, ◌-◌, ◌<◌, List, [], ◌∷◌, length, get_or, T, arith, sym, subst, ap, ◌∙◌}
use Rattle.std.proofs.lemmas.List.{get_or_default}
use Rattle.std.specs.Ordering.{is_lt}
use Rattle.std.specs.declared.cmp.Ordering.{Ordering}
use Rattle.std.specs.declared.cmp.Ordering.TheVariants.{Less}
use Rattle.std.specs.Cmp.{IsTotalOrder}
use Rattle.std.specs.FinMap.Entries.{below_all}
use Rattle.htl_sorted.specs.Entries.{IsSorted, entries}
use Rattle.htl_sorted.proofs.Places.{rising}
use Rattle.htl_lemmas.proofs.Tests.{both}

module _ {Row K X : Type 0} (key : Row → K) (value : Row → X) (R : K → K → Ordering) where
  -- each of the first rows is above the one before it
  abbrev pub RiseTo : List Row → ℕ → Type 0
  RiseTo rows n = (i : ℕ) (d : Row) → suc i < n → R (key (get_or rows i d)) (key (get_or rows (suc i) d)) ≡ Less

  module _ (o : IsTotalOrder R) where
    is_less : (j k : K) → R j k ≡ Less → T (is_lt (R j k))
    is_less j k e = subst (λ (r : Ordering). T (is_lt r)) (sym e) tt

    -- a key below the first row is below all, where each is above the one before it
    below_chain : (k : K) (rows : List Row) → ((d : Row) → 0 < length rows → R k (key (get_or rows 0 d)) ≡ Less)
        → RiseTo rows (length rows) → T (below_all R k (entries key value rows))
    below_chain k [] first rise = tt
    below_chain k (row ∷ rows) first rise =
        let before : R k (key row) ≡ Less = first row (omega arith) in
        both _ _ (is_less k (key row) before) (below_chain k rows
        (λ d lt. o.trans k (key row) (key (get_or rows 0 d)) before (rise 0 d (omega (arith, lt))))
        (λ i d lt. rise (suc i) d (omega (arith, lt))))

    -- rows of which each is above the one before it are in order
    pub sorted_chain : (rows : List Row) → RiseTo rows (length rows) → IsSorted R (entries key value rows)
    sorted_chain [] rise = tt
    sorted_chain (row ∷ rows) rise =
        both _ _ (below_chain (key row) rows (λ d lt. rise 0 d (omega (arith, lt))) (λ i d lt. rise (suc i) d (omega (arith, lt))))
        (sorted_chain rows (λ i d lt. rise (suc i) d (omega (arith, lt))))

    -- in rows in order the row at a place is above that at the place before it
    pub above_before : (rows : List Row) (n : ℕ) (x y : Row) → IsSorted R (entries key value rows) → 0 < n → n < length rows
        → x ≡ get_or rows (n - 1) x → y ≡ get_or rows n y → R (key x) (key y) ≡ Less
    above_before rows n x y sorted some lt is_x is_y =
        let less : R (key (get_or rows (n - 1) x)) (key (get_or rows n x)) ≡ Less =
        rising key value o rows sorted (n - 1) n x (omega (arith, some)) lt in
        ap (λ (z : Row). R (key z) (key y)) is_x
        ∙ ap (λ (z : Row). R (key (get_or rows (n - 1) x)) (key z)) (is_y ∙ get_or_default rows n y x lt) ∙ less
