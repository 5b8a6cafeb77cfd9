-- A binary search in a list in the order of its keys finds the place of a key or its gap, and an edit there is a put of the key.
use Rattle.std.proofs.Common.{◌≡◌, ℕ, zero, suc, ◌<◌, ◌≤◌, List, [], ◌∷◌, length, get_or, None, Result}
use Rattle.std.proofs.Common.{Ok, Err, IfOk, IfErr, T, refl, inl, inr, sym, ◌∙◌, ap, arith}
use Rattle.std.specs.List.Sorted.{IsSearchInRange, IsBinarySearchResult, IsNonDecreasingBy}
use Rattle.std.specs.Ordering.{ordering_index, ordering_reverse}
use Rattle.std.specs.declared.cmp.Ordering.{Ordering}
use Rattle.std.specs.declared.cmp.Ordering.TheVariants.{Less, Equal, Greater}
use Rattle.std.specs.Cmp.{IsTotalOrder}
use Rattle.std.specs.FinMap.Entries.{find, below_all}
use Rattle.std.proofs.lemmas.Bool.{cases_lt}
use Rattle.htl_sorted.specs.Entries.{IsSorted, IsPlace, IsGap, entries}
use Rattle.htl_lemmas.proofs.Tests.{both_left, both_right, less}

-- compared the other way round, two keys give the reverse
pub turn : {K : Type 0} {R : K → K → Ordering} → IsTotalOrder R → (x y : K) (r : Ordering) → R x y ≡ r → R y x ≡ ordering_reverse r
turn o x y r e = o.antisymm y x ∙ ap ordering_reverse e

module _ {Row K X : Type 0} (key : Row → K) (value : Row → X) {R : K → K → Ordering} (o : IsTotalOrder R) where
  -- a key below all is below each
  pub below_each : (x : K) (es : List Row) → T (below_all R x (entries key value es)) → (i : ℕ) (d : Row) → i < length es
      → R x (key (get_or es i d)) ≡ Less
  below_each x [] h i d lt = absurd (omega arith)
  below_each x (e ∷ es) h zero d lt = less _ (both_left _ _ h)
  below_each x (e ∷ es) h (suc i) d lt = below_each x es (both_right _ _ h) i d (omega arith)

  -- what comes before a row is below it
  pub rising : (es : List Row) → IsSorted R (entries key value es) → (i j : ℕ) (d : Row) → i < j → j < length es
      → R (key (get_or es i d)) (key (get_or es j d)) ≡ Less
  rising [] s i j d lt in_range = absurd (omega arith)
  rising (e ∷ es) s i zero d lt in_range = absurd (omega arith)
  rising (e ∷ es) s zero (suc j) d lt in_range = below_each (key e) es (both_left _ _ s) j d (omega arith)
  rising (e ∷ es) s (suc i) (suc j) d lt in_range = rising es (both_right _ _ s) i j d (omega arith) (omega arith)

  module _ (k : K) where
    -- the row with the key
    pub place : (es : List Row) → IsSorted R (entries key value es) → (i : ℕ) → i < length es
        → ((d : Row) → R (key (get_or es i d)) k ≡ Equal) → IsPlace R (entries key value es) k i
    place [] s i in_range has = absurd (omega arith)
    place (e ∷ es) s zero in_range has = record {
      in_range = omega arith;
      value = λ d. rw (turn o _ _ _ (has e)) refl;
      puts = λ d v. rw (turn o _ _ _ (has e)) refl;
    }
    place (e ∷ es) s (suc i) in_range has =
        let sorted : IsSorted R (entries key value es) = both_right _ _ s in
        let within : i < length es = omega arith in
        let rest : IsPlace R (entries key value es) k i = place es sorted i within has in
        let above : R k (key e) ≡ Greater =
        o.congr k (key (get_or es i e)) (key e) (turn o _ _ _ (has e))
        ∙ turn o _ _ _ (below_each (key e) es (both_left _ _ s) i e (omega arith)) in
        record {
          in_range = omega (arith, rest.in_range);
          value = λ d. rw above (rest.value d);
          puts = λ d v. rw above (ap (λ l. (key e, value e) ∷ l) (rest.puts d v));
        }

    none_above : (es : List Row) → ((j : ℕ) (d : Row) → j < length es → R (key (get_or es j d)) k ≡ Greater)
        → find R k (entries key value es) ≡ None
    none_above [] above = refl
    none_above (e ∷ es) above = rw (turn o _ _ _ (above 0 e (omega arith))) (none_above es (λ j d lt. above (suc j) d (omega arith)))

    -- the gap for the key
    pub gap : (es : List Row) (i : ℕ) → i ≤ length es → ((j : ℕ) (d : Row) → j < i → R (key (get_or es j d)) k ≡ Less)
        → ((j : ℕ) (d : Row) → i ≤ j → j < length es → R (key (get_or es j d)) k ≡ Greater) → IsGap R (entries key value es) k i
    gap [] zero in_range below above = record { in_range = in_range; value = refl; puts = λ v. refl }
    gap [] (suc i) in_range below above = absurd (omega arith)
    gap (e ∷ es) zero in_range below above = record {
      in_range = omega arith;
      value = none_above (e ∷ es) (λ j d lt. above j d (omega arith) lt);
      puts = λ v. rw (turn o _ _ _ (above 0 e (omega arith) (omega arith))) refl;
    }
    gap (e ∷ es) (suc i) in_range below above =
        let rest : IsGap R (entries key value es) k i =
        gap es i (omega arith) (λ j d lt. below (suc j) d (omega arith)) (λ j d le lt. above (suc j) d (omega arith) (omega arith)) in
        let past : R k (key e) ≡ Greater = turn o _ _ _ (below 0 e (omega arith)) in
        record {
          in_range = omega (arith, rest.in_range);
          value = rw past rest.value;
          puts = λ v. rw past (ap (λ l. (key e, value e) ∷ l) (rest.puts v));
        }

    -- the answers of the comparisons with the key rise along the list
    rises : (es : List Row) → IsSorted R (entries key value es) → IsNonDecreasingBy (λ e. ordering_index (R (key e) k)) es
    rises es s i j d le in_range = elim (cases_lt i j) [
      | inl before ↦ elim (R (key (get_or es i d)) k)
          as (λ r. R (key (get_or es i d)) k ≡ r → ordering_index r ≤ ordering_index (R (key (get_or es j d)) k)) [
            | Less ↦ λ e. omega arith
            | Equal ↦ λ e. let up : R (key (get_or es j d)) k ≡ Greater = turn o _ _ _
                (sym (o.congr (key (get_or es i d)) k (key (get_or es j d)) e) ∙ rising es s i j d before in_range) in rw up (omega arith)
            | Greater ↦ λ e. let up : R (key (get_or es j d)) k ≡ Greater =
                turn o _ _ _ (o.trans k (key (get_or es i d)) (key (get_or es j d)) (turn o _ _ _ e)
                (rising es s i j d before in_range)) in
                rw up (omega arith)
          ] refl
      | inr same ↦ let e : i ≡ j = omega arith in rw e (omega arith)
    ]

    -- what a binary search answers is the place of the key, or the gap for it
    pub searched : (es : List Row) → IsSorted R (entries key value es) → (r : Result ℕ ℕ) → IsSearchInRange r (length es)
        → IsBinarySearchResult (λ e. R (key e) k) es r
        → record { found : IfOk r (IsPlace R (entries key value es) k); absent : IfErr r (IsGap R (entries key value es) k) }
    searched es s (Ok i) in_range equal = record { found = place es s i in_range (λ d. equal d); absent = tt }
    searched es s (Err i) in_range parted = record {
      found = tt;
      absent = gap es i in_range (λ j d lt. (parted (rises es s)).0 j d (omega arith) lt) (λ j d le lt. (parted (rises es s)).1 j d le lt);
    }
