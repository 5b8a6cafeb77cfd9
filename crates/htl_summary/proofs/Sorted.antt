-- Rows that a sort by a number and a key put in order rise strictly, where their keys differ.
use Rattle.std.proofs.Common.{◌≡◌, ◌≢◌, ℕ, suc, ◌+◌, ◌<◌, get_or, Bool, false, List, []}
use Rattle.std.proofs.Common.{◌∷◌, map, T, refl, sym, ap, subst, ◌∙◌, arith, inl, inr}
use Rattle.std.specs.Prelude.{Contains, ◌↔◌}
use Rattle.std.specs.List.{IsDistinct, AllByRecursion}
use Rattle.std.specs.List.Sorted.{IsSortedBy, IsPermutation}
use Rattle.std.specs.Ordering.{nat_cmp, is_eq, is_lt, ordering_reverse}
use Rattle.std.specs.Cmp.{IsTotalOrder, tied_itself}
use Rattle.std.specs.FinMap.Entries.{below_all}
use Rattle.std.specs.declared.cmp.Ordering.{Ordering}
use Rattle.std.specs.declared.cmp.Ordering.TheVariants.{Less, Equal, Greater}
use Rattle.std.proofs.lemmas.Bool.{cases_Bool, false≢true, both_ways}
use Rattle.std.proofs.lemmas.Cmp.{nat_cmp_total, on_total, then_total, back_total}
use Rattle.std.proofs.lemmas.Map.Keys.{IsDistinct-IsPermutation}
use Rattle.std.proofs.lemmas.List.Sorted.{ranks_by, sorted_far, IsPermutation-map, IsPermutation-sym, Contains-permutation}
use Rattle.htl_event.specs.Members.{IsRising}
use Rattle.htl_event.proofs.Members.{Contains-map, each_member, at_member}
use Rattle.htl_sorted.specs.Entries.{IsSorted, entries}
use Rattle.htl_lemmas.proofs.Tests.{both_left, both_right, equal, less, lower}
use Rattle.htl_sorted.proofs.Places.{turn}
use Rattle.htl_answers.specs.RowOrder.{both_tied}
use Rattle.htl_answers.proofs.Opens.{IsRising-map}
use Rattle.htl_summary.specs.Ranking.{rank_cmp}

-- ---- keys of a table

module _ {Row X : Type 0} (key : Row → ℕ) (value : Row → X) where
  rise_from : (k : ℕ) (rows : List Row) → T (below_all nat_cmp k (entries key value rows)) → AllByRecursion (λ row. k < key row) rows
  rise_from k [] h = tt
  rise_from k (row ∷ rows) h = (lower k (key row) (less (nat_cmp k (key row)) (both_left _ _ h)), rise_from k rows (both_right _ _ h))

  -- the keys of a table rise
  pub keys_rise : (rows : List Row) → IsSorted nat_cmp (entries key value rows) → IsRising (λ a b. key a < key b) rows
  keys_rise [] sorted = tt
  keys_rise (row ∷ rows) sorted = (rise_from (key row) rows (both_left _ _ sorted), keys_rise rows (both_right _ _ sorted))

-- and so they differ
pub keys_differ : {Row : Type 0} (key : Row → ℕ) (rows : List Row) → IsRising (λ a b. key a < key b) rows
    → IsRising (λ x y. x ≢ y) (map key rows)
keys_differ key rows rising = IsRising-map (λ a b. key a < key b) (λ x y. x ≢ y) key (λ a b lt e. omega (arith, lt, e)) rows rising

-- a list in another order has the same members
pub same_members : {X : Type 0} (xs ys : List X) → IsPermutation xs ys → (x : X) → Contains ys x ↔ Contains xs x
same_members xs ys moved x = (Contains-permutation ys xs x (IsPermutation-sym xs ys moved), Contains-permutation xs ys x moved)

-- ---- in order

module _ {X K : Type 0} {cmp : K → K → Ordering} (o : IsTotalOrder cmp) (proper : (x y : K) → cmp x y ≡ Equal → x ≡ y)
    (number : X → ℕ) (key : X → K) where
  -- the keys tie
  abbrev ties : K → K → Bool
  ties x y = is_eq (cmp x y)

  abbrev rank : X → X → Ordering
  rank = rank_cmp cmp number key

  pub rank_total : IsTotalOrder rank
  rank_total = then_total (back_total (on_total number nat_cmp_total)) (on_total key o)

  abbrev before : X → X → Bool
  before x y = is_lt (rank x y)

  distinct : (ks : List K) → IsRising (λ x y. x ≢ y) ks → IsDistinct ties ks
  unfolding IsDistinct
  distinct [] apart = tt
  distinct (k ∷ ks) apart = (
    each_member (λ j. ties k j ≡ false) ks (λ j h. elim (cases_Bool (ties k j)) [
      | inl tied ↦ absurd (at_member (λ y. k ≢ y) ks j apart.0 h (proper k j (equal (cmp k j) tied)))
      | inr other ↦ other
    ]),
    distinct ks apart.1,
  )

  tie_either_way : (x y : K) → ties x y ≡ ties y x
  tie_either_way x y = ap is_eq (o.antisymm x y) ∙ by (cmp y x)
    where
      by : (r : Ordering) → is_eq (ordering_reverse r) ≡ is_eq r
      by Less = refl
      by Equal = refl
      by Greater = refl

  strictly : (x y : X) → before y x ≡ false → key x ≢ key y → rank x y ≡ Less
  strictly x y not apart = go (rank x y) refl
    where
      go : (r : Ordering) → rank x y ≡ r → r ≡ Less
      go Less e = refl
      go Equal e = absurd (apart (proper (key x) (key y) (both_tied _ _ e).1))
      go Greater e = absurd (false≢true (sym not ∙ ap is_lt (turn rank_total x y Greater e)))

  head_first : (x : X) (xs : List X) → IsSortedBy before (x ∷ xs) → (y : X) → Contains xs y → before y x ≡ false
  head_first x xs up y (i, within, is) =
      let far = sorted_far before (ranks_by rank_total (λ z. z)) (x ∷ xs) up 0 (suc i) y (omega arith) (omega (arith, within)) in
      ap (λ z. before z x) (sym is) ∙ far

  rising_from_sorted : (xs : List X) → IsSortedBy before xs → IsDistinct ties (map key xs) → IsRising (λ a b. rank a b ≡ Less) xs
  unfolding IsDistinct
  rising_from_sorted [] up differ = tt
  rising_from_sorted (x ∷ xs) up differ = (
    each_member (λ y. rank x y ≡ Less) xs (λ y h. strictly x y (head_first x xs up y h) (apart y h)),
    rising_from_sorted xs rest differ.1,
  )
    where
      rest : IsSortedBy before xs
      rest k d low high =
          let next : suc k + 1 ≡ suc (k + 1) = omega arith in
          subst (λ (j : ℕ). before (get_or (x ∷ xs) j d) (get_or xs k d) ≡ false) next (up (suc k) d (omega arith) (omega (arith, high)))

      apart : (y : X) → Contains xs y → key x ≢ key y
      apart y h e =
          let not : ties (key x) (key y) ≡ false = at_member (λ k. ties (key x) k ≡ false) (map key xs) (key y) differ.0 (Contains-map key xs y h) in
          both_ways (ties (key x) (key y)) not (ap (λ k. is_eq (cmp (key x) k)) (sym e) ∙ ap is_eq (tied_itself o (key x)))

  -- rows of different keys that are sorted by rank rise strictly by it
  pub rising_by_rank : (xs ys : List X) → IsRising (λ x y. x ≢ y) (map key xs) → IsPermutation xs ys → IsSortedBy before ys
      → IsRising (λ a b. rank a b ≡ Less) ys
  rising_by_rank xs ys apart moved up =
      rising_from_sorted ys up
      (IsDistinct-IsPermutation ties tie_either_way (map key xs) (map key ys) (IsPermutation-map key xs ys moved) (distinct (map key xs) apart))
