-- Rows in the order of their keys are added up from the first on: a row joins the sum before it, or begins the next sum.
use Rattle.std.proofs.Common.{◌≡◌, suc, ◌+◌, ◌^◌, ◌<◌, Bool, true, false, List, [], ◌∷◌, get_or}
use Rattle.std.proofs.Common.{refl, sym, ap, subst, ◌∙◌, arith, inl, inr, ◌⊎◌}
use Rattle.std.specs.Prelude.{Contains}
use Rattle.std.specs.List.Retain.{DedupsFrom, IsDeduped}
use Rattle.std.specs.List.Sorted.{IsPermutation, IsSortedByKey}
use Rattle.std.specs.Cmp.{IsTotalOrder}
use Rattle.std.specs.Ordering.{is_eq, is_lt, ordering_reverse}
use Rattle.std.specs.declared.cmp.Ordering.{Ordering}
use Rattle.std.specs.declared.cmp.Ordering.TheVariants.{Less, Equal, Greater}
use Rattle.std.proofs.lemmas.Bool.{false≢true}
use Rattle.std.proofs.lemmas.List.Sorted.{Contains-permutation, IsPermutation-sym, sum_by-IsPermutation}
use Rattle.std.proofs.lemmas.List.Sums.{sum_by-cons}
use Rattle.htl_event.specs.declared.slot.Count.{Count}
use Rattle.htl_event.specs.Tallies.{plus_count, total_of}
use Rattle.htl_event.proofs.Members.{Contains-here, Contains-there, Contains-cases, Contains-nil, each_member}
use Rattle.htl_answers.specs.Rows.{count_of, total_in, ByKey, AreSums, CountAlike, IsAdded}
use Rattle.htl_answers.proofs.RowCounts.{count_of-append, count_of-moved}
use Rattle.htl_answers.proofs.CountedAlike.{alike_itself, alike_more, joined_alike, positive_both}
use Rattle.htl_lemmas.proofs.Tests.{equal}

module _ {K : Type 0} {cmp : K → K → Ordering} (o : IsTotalOrder cmp) where
  -- each key is that of the row before it, or comes after it
  abbrev NeverFall : K × Count → List (K × Count) → Type 0
  NeverFall first [] = Unit {0}
  NeverFall first (row ∷ rows) = (is_lt (cmp row.0 first.0) ≡ false) × NeverFall row rows

  never_fall : (first : K × Count) (rows : List (K × Count)) → IsSortedByKey (λ (row : K × Count). row.0) cmp (first ∷ rows) → NeverFall first rows
  never_fall first [] sorted = tt
  never_fall first (row ∷ rows) sorted = (
    sorted 0 first (omega arith) (omega arith),
    never_fall row rows (λ i d low high.
        let next : suc i + 1 ≡ suc (i + 1) = omega arith in
        subst (λ n. is_lt (cmp (get_or (first ∷ row ∷ rows) n d).0 (get_or (row ∷ rows) i d).0) ≡ false) next
        (sorted (suc i) d (omega arith) (omega (arith, high)))),
  )

  same_falls : (one other : K × Count) (rows : List (K × Count)) → one.0 ≡ other.0 → NeverFall one rows → NeverFall other rows
  same_falls one other [] same never = tt
  same_falls one other (row ∷ rows) same never = (ap (λ k. is_lt (cmp row.0 k)) (sym same) ∙ never.0, never.1)

  -- a key that doesn't come before another, nor ties with it, comes after it
  comes_after : (x y : K) → is_lt (cmp y x) ≡ false → is_eq (cmp y x) ≡ false → cmp x y ≡ Less
  comes_after x y not_less not_tied = go (cmp y x) refl
    where
      go : (r : Ordering) → cmp y x ≡ r → cmp x y ≡ Less
      go Less e = absurd (false≢true (sym not_less ∙ ap is_lt e))
      go Equal e = absurd (false≢true (sym not_tied ∙ ap is_eq e))
      go Greater e = o.antisymm x y ∙ ap ordering_reverse e

  -- the sums of rows, none of which comes before the first row
  record AreSumsFrom (first : K × Count) (rows sums : List (K × Count)) : Type 0 where
    are : AreSums cmp (first ∷ rows) sums
    from : (sum : K × Count) → Contains sums sum → (first.0 ≡ sum.0) ⊎ (cmp first.0 sum.0 ≡ Less)

  -- the sums of one row
  sum_of_one : (first : K × Count) → AreSumsFrom first [] (first ∷ [])
  sum_of_one first = record {
    are = record { rising = (tt, tt); counts = λ k. refl; total = refl; positive = λ each. each };
    from = λ sum h. (elim (Contains-cases first [] sum h) [
      | inl is ↦ inl (ap (λ r. r.0) is)
      | inr none ↦ absurd (Contains-nil sum none)
    ]);
  }

  -- the second row joins the first, which has its key
  sums_joined : (first row : K × Count) (rows sums : List (K × Count)) → first.0 ≡ row.0
      → AreSumsFrom (first.0, plus_count first.1 row.1) rows sums → AreSumsFrom first (row ∷ rows) sums
  sums_joined first row rows sums same later =
      let sum : K × Count = (first.0, plus_count first.1 row.1) in
      let alike : CountAlike cmp (first ∷ row ∷ rows) (sum ∷ rows) =
      alike_more cmp (first ∷ row ∷ []) (sum ∷ []) rows (sum ∷ rows) (joined_alike cmp [] [] first row same) (alike_itself cmp (sum ∷ rows)) in
      record {
        are = record {
          rising = later.are.rising;
          counts = λ k. later.are.counts k ∙ alike.counts k;
          total = later.are.total ∙ alike.total;
          positive = λ each. later.are.positive (alike.positive each);
        };
        from = later.from;
      }

  -- the second row, which comes after the first, begins the next sum
  sums_after : (first row : K × Count) (rows sums : List (K × Count)) → cmp first.0 row.0 ≡ Less
      → AreSumsFrom row rows sums → AreSumsFrom first (row ∷ rows) (first ∷ sums)
  sums_after first row rows sums less later =
      let after : (sum : K × Count) → Contains sums sum → cmp first.0 sum.0 ≡ Less = λ sum h. (elim (later.from sum h) [
        | inl same ↦ subst (λ k. cmp first.0 k ≡ Less) same less
        | inr more ↦ o.trans first.0 row.0 sum.0 less more
      ]) in
      record {
        are = record {
          rising = (each_member (ByKey cmp first) sums after, later.are.rising);
          counts = λ k. count_of-append cmp k (first ∷ []) sums ∙ ap (plus_count (count_of cmp k (first ∷ []))) (later.are.counts k)
              ∙ sym (count_of-append cmp k (first ∷ []) (row ∷ rows));
          total =
              let number = λ (r : K × Count). total_of r.1 in
              sum_by-cons number first sums ∙ ap (λ n. number first + n) later.are.total ∙ sym (sum_by-cons number first (row ∷ rows));
          positive = λ each. positive_both (first ∷ []) sums (λ r h. (elim (Contains-cases first [] r h) [
            | inl is ↦ each r (subst (Contains (first ∷ row ∷ rows)) is (Contains-here first (row ∷ rows)))
            | inr none ↦ absurd (Contains-nil r none)
          ])) (later.are.positive (λ r h. each r (Contains-there first (row ∷ rows) r h)));
        };
        from = λ sum h. (elim (Contains-cases first sums sum h) [
          | inl is ↦ inl (ap (λ r. r.0) is)
          | inr there ↦ inr (after sum there)
        ]);
      }

  -- `dedup_by` leaves the sums, where its test adds a row to the sum before it
  module _ (proper : (x y : K) → cmp x y ≡ Equal → x ≡ y) {S : Type 0}
      (R : S → K × Count → K × Count → Bool → S → K × Count → K × Count → Type 0)
      (adds : (s : S) (row sum : K × Count) (b : Bool) (t : S) (same now : K × Count) → R s row sum b t same now
      → (same ≡ row) × IsAdded cmp row sum b now) where
    summed_from : (s : S) (first : K × Count) (rows sums : List (K × Count)) → NeverFall first rows → total_in (first ∷ rows) < 2 ^ 64
        → DedupsFrom R s first rows sums → AreSumsFrom first rows sums
    summed_from s first [] sums never fits is = subst (AreSumsFrom first []) (sym is) (sum_of_one first)
    summed_from s first (row ∷ rows) sums never fits (true, t, row', sum', call, rest) =
        let is = (adds s row first true t row' sum' call).1 in
        let number = λ (r : K × Count). total_of r.1 in
        let whole = sum_by-cons number first (row ∷ rows) in
        let inner = sum_by-cons number row rows in
        let same : row.0 ≡ first.0 = proper row.0 first.0 (equal (cmp row.0 first.0) is.same) in
        let sum : K × Count = (first.0, plus_count first.1 row.1) in
        let is_sum : sum' ≡ sum = is.added refl (omega (arith, whole, inner, fits)) in
        let joined = sum_by-cons number sum rows in
        sums_joined first row rows sums (sym same)
        (summed_from t sum rows sums (same_falls row sum rows same never.1) (omega (arith, whole, inner, joined, fits))
        (subst (λ z. DedupsFrom R t z rows sums) is_sum rest))
    summed_from s first (row ∷ rows) sums never fits (false, t, row', sum', call, (others, rest, is_sums)) =
        let is = adds s row first false t row' sum' call in
        let whole = sum_by-cons (λ (r : K × Count). total_of r.1) first (row ∷ rows) in
        subst (AreSumsFrom first (row ∷ rows)) (sym (is_sums ∙ ap (λ z. z ∷ others) (is.1.kept refl)))
        (sums_after first row rows others (comes_after first.0 row.0 never.0 is.1.same)
        (summed_from t row rows others never.1 (omega (arith, whole, fits)) (subst (λ z. DedupsFrom R t z rows others) is.0 rest)))

    -- the sums of all rows
    pub summed : (s : S) (rows sums : List (K × Count)) → IsSortedByKey (λ (row : K × Count). row.0) cmp rows → total_in rows < 2 ^ 64
        → IsDeduped R s rows sums → AreSums cmp rows sums
    summed s [] sums sorted fits is = subst (AreSums cmp []) (sym is.told)
        (record { rising = tt; counts = λ k. refl; total = refl; positive = λ each. each })
    summed s (first ∷ rows) sums sorted fits is = (summed_from s first rows sums (never_fall first rows sorted) fits is.told).are

  -- the sums don't depend on the order of the rows
  pub sums_moved : (rows moved sums : List (K × Count)) → IsPermutation rows moved → AreSums cmp moved sums → AreSums cmp rows sums
  sums_moved rows moved sums is of_moved = record {
    rising = of_moved.rising;
    counts = λ k. of_moved.counts k ∙ count_of-moved cmp k rows moved is;
    total = of_moved.total ∙ sum_by-IsPermutation (λ (r : K × Count). total_of r.1) rows moved is;
    positive = λ each. of_moved.positive (λ r h. each r (Contains-permutation moved rows r (IsPermutation-sym rows moved is) h));
  }
