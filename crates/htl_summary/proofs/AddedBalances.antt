-- Balances in the order of their keys are added up from the first on. Each key has one row then, which says what all its balances come to.
use Rattle.std.proofs.Common.{◌≡◌, ◌≢◌, ℕ, suc, ◌+◌, ◌<◌, ◌≤◌, ◌^◌, Bool, true, false, cond, List, [], ◌∷◌, get_or, Option, Some, None}
use Rattle.std.proofs.Common.{refl, sym, ap, subst, ◌∙◌, arith, inl, inr, ◌⊎◌}
use Rattle.std.specs.Prelude.{Contains}
use Rattle.std.specs.List.{sum_by, filter_map}
use Rattle.std.specs.List.Retain.{DedupsFrom, IsDeduped}
use Rattle.std.specs.List.Sorted.{IsPermutation, IsSortedByKey}
use Rattle.std.specs.Cmp.{IsTotalOrder, tied_itself}
use Rattle.std.specs.Ordering.{is_eq, is_lt, ordering_reverse}
use Rattle.std.specs.declared.cmp.Ordering.{Ordering}
use Rattle.std.specs.declared.cmp.Ordering.TheVariants.{Less, Equal, Greater}
use Rattle.std.proofs.lemmas.Bool.{cases_Bool, cases_lt, false≢true}
use Rattle.std.proofs.lemmas.List.Sorted.{Contains-permutation, IsPermutation-sym, sum_by-IsPermutation}
use Rattle.std.proofs.lemmas.List.Sums.{sum_by-cons}
use Rattle.htl_event.specs.Tallies.{total_of, IsPositive}
use Rattle.htl_event.specs.declared.slot.Count.{Count}
use Rattle.htl_event.specs.Members.{IsRising}
use Rattle.htl_event.proofs.Members.{Contains-here, Contains-there, Contains-cases, Contains-nil, each_member}
use Rattle.htl_lemmas.proofs.Tests.{equal}
use Rattle.htl_answers.proofs.FilterMaps.{Contains-from_filter_map}
use Rattle.htl_answers.proofs.NumberSums.{amount, sum_upto, sum_filter_map}
use Rattle.htl_event.specs.declared.balance.Balance.{Balance}
use Rattle.htl_summary.specs.Balancing.{plus_balance, AddsUp, at_key, ByKey, Fit, AreAdded, IsAdded}
use Rattle.htl_summary.proofs.Counting.{sum_where_one}
use Rattle.htl_summary.proofs.Placed.{rising_members}

-- ---- rows of each key made one

module _ {K : Type 0} {cmp : K → K → Ordering} (o : IsTotalOrder cmp) where
  abbrev Row : Type 0
  Row = Balance K

  abbrev count_in : Row → ℕ
  count_in row = total_of row.count

  abbrev objects_in : Row → ℕ
  objects_in row = row.objects

  -- each key is that of the row before it, or comes after it
  abbrev NeverFall : Row → List Row → Type 0
  NeverFall first [] = Unit {0}
  NeverFall first (row ∷ rows) = (is_lt (cmp row.by first.by) ≡ false) × NeverFall row rows

  never_fall : (first : Row) (rows : List Row) → IsSortedByKey (λ (row : Row). row.by) cmp (first ∷ rows) → NeverFall first rows
  never_fall first [] sorted = tt
  never_fall first (row ∷ rows) sorted = (
    sorted 0 first (omega arith) (omega arith),
    never_fall row rows (λ i d low high.
        let next : suc i + 1 ≡ suc (i + 1) = omega arith in
        subst (λ n. is_lt (cmp (get_or (first ∷ row ∷ rows) n d).by (get_or (row ∷ rows) i d).by) ≡ false) next
        (sorted (suc i) d (omega arith) (omega (arith, high)))),
  )

  same_falls : (one other : Row) (rows : List Row) → one.by ≡ other.by → NeverFall one rows → NeverFall other rows
  same_falls one other [] same never = tt
  same_falls one other (row ∷ rows) same never = (ap (λ k. is_lt (cmp row.by k)) (sym same) ∙ never.0, never.1)

  -- a key that doesn't come before another, nor ties with it, comes after it
  comes_after : (x y : K) → is_lt (cmp y x) ≡ false → is_eq (cmp y x) ≡ false → cmp x y ≡ Less
  comes_after x y not_less not_tied = go (cmp y x) refl
    where
      go : (r : Ordering) → cmp y x ≡ r → cmp x y ≡ Less
      go Less e = absurd (false≢true (sym not_less ∙ ap is_lt e))
      go Equal e = absurd (false≢true (sym not_tied ∙ ap is_eq e))
      go Greater e = o.antisymm x y ∙ ap ordering_reverse e

  -- the sums of rows, none of which comes before the first row
  record AreAddedFrom (first : Row) (rows sums : List Row) : Type 0 where
    are : AreAdded cmp (first ∷ rows) sums
    from : (sum : Row) → Contains sums sum → (first.by ≡ sum.by) ⊎ (cmp first.by sum.by ≡ Less)

  -- the sums of one row
  sum_of_one : (first : Row) → AreAddedFrom first [] (first ∷ [])
  sum_of_one first = record {
    are = record { rising = (tt, tt); numbers = λ number adds k. refl; positive = λ each. each };
    from = λ sum h. (elim (Contains-cases first [] sum h) [
      | inl is ↦ inl (ap (λ (r : Row). r.by) is)
      | inr none ↦ absurd (Contains-nil sum none)
    ]);
  }

  -- a number of two rows of one key, made one, is that of both
  at_both : (number : Row → ℕ) → AddsUp number → (k : K) (a b : Row) → a.by ≡ b.by
      → at_key cmp k number (plus_balance a b) ≡ at_key cmp k number a + at_key cmp k number b
  at_both number adds k a b same =
      (elim (is_eq (cmp k a.by)) as (λ t. cond t (number (plus_balance a b)) 0 ≡ cond t (number a) 0 + cond t (number b) 0)
      [ true ↦ adds a b | false ↦ refl ])
      ∙ ap (λ (j : K). at_key cmp k number a + cond (is_eq (cmp k j)) (number b) 0) same

  -- the second row joins the first, which has its key
  sums_joined : (first row : Row) (rows sums : List Row) → first.by ≡ row.by → AreAddedFrom (plus_balance first row) rows sums
      → AreAddedFrom first (row ∷ rows) sums
  sums_joined first row rows sums same later =
      let sum = plus_balance first row in
      record {
        are = record {
          rising = later.are.rising;
          numbers = λ number adds k.
              let these = later.are.numbers number adds k in
              let one = sum_by-cons (at_key cmp k number) sum rows in
              let whole = sum_by-cons (at_key cmp k number) first (row ∷ rows) in
              let inner = sum_by-cons (at_key cmp k number) row rows in
              let both = at_both number adds k first row same in
              omega (arith, these, one, whole, inner, both);
          positive = λ each. later.are.positive (λ r h. (elim (Contains-cases sum rows r h) [
            | inl is ↦
                let some = each first (Contains-here first (row ∷ rows)) in
                subst (λ (x : Row). IsPositive x.count) is (omega (arith, some))
            | inr there ↦ each r (Contains-there first (row ∷ rows) r (Contains-there row rows r there))
          ]));
        };
        from = later.from;
      }

  -- the second row, which comes after the first, begins the next sum
  sums_after : (first row : Row) (rows sums : List Row) → cmp first.by row.by ≡ Less → AreAddedFrom row rows sums
      → AreAddedFrom first (row ∷ rows) (first ∷ sums)
  sums_after first row rows sums less later =
      let after : (sum : Row) → Contains sums sum → cmp first.by sum.by ≡ Less = λ sum h. (elim (later.from sum h) [
        | inl same ↦ subst (λ k. cmp first.by k ≡ Less) same less
        | inr more ↦ o.trans first.by row.by sum.by less more
      ]) in
      record {
        are = record {
          rising = (each_member (ByKey cmp first) sums after, later.are.rising);
          numbers = λ number adds k.
              let these = later.are.numbers number adds k in
              let left = sum_by-cons (at_key cmp k number) first sums in
              let right = sum_by-cons (at_key cmp k number) first (row ∷ rows) in
              omega (arith, these, left, right);
          positive = λ each sum h. (elim (Contains-cases first sums sum h) [
            | inl is ↦ subst (λ (x : Row). IsPositive x.count) is (each first (Contains-here first (row ∷ rows)))
            | inr there ↦ later.are.positive (λ r k. each r (Contains-there first (row ∷ rows) r k)) sum there
          ]);
        };
        from = λ sum h. (elim (Contains-cases first sums sum h) [
          | inl is ↦ inl (ap (λ (r : Row). r.by) is)
          | inr there ↦ inr (after sum there)
        ]);
      }

  -- `dedup_by` leaves the sums, where its test adds a row to the sum before it
  module _ (proper : (x y : K) → cmp x y ≡ Equal → x ≡ y) {S : Type 0} (R : S → Row → Row → Bool → S → Row → Row → Type 0)
      (adds : (s : S) (row sum : Row) (b : Bool) (t : S) (same now : Row) → R s row sum b t same now
      → (same ≡ row) × IsAdded cmp row sum b now) where
    added_from : (s : S) (first : Row) (rows sums : List Row) → NeverFall first rows → Fit (first ∷ rows)
        → DedupsFrom R s first rows sums → AreAddedFrom first rows sums
    added_from s first [] sums never fits is = subst (AreAddedFrom first []) (sym is) (sum_of_one first)
    added_from s first (row ∷ rows) sums never fits (true, t, row', sum', call, rest) =
        let is = (adds s row first true t row' sum' call).1 in
        let c = fits.counts in
        let c1 = sum_by-cons count_in first (row ∷ rows) in
        let c2 = sum_by-cons count_in row rows in
        let n = fits.objects in
        let n1 = sum_by-cons objects_in first (row ∷ rows) in
        let n2 = sum_by-cons objects_in row rows in
        let same : row.by ≡ first.by = proper row.by first.by (equal (cmp row.by first.by) is.same) in
        let sum : Row = plus_balance first row in
        let is_sum : sum' ≡ sum = is.added refl (omega (arith, c, c1, c2)) (omega (arith, n, n1, n2)) in
        let c3 = sum_by-cons count_in sum rows in
        let n3 = sum_by-cons objects_in sum rows in
        let fit : Fit (sum ∷ rows) = record { counts = omega (arith, c, c1, c2, c3); objects = omega (arith, n, n1, n2, n3) } in
        sums_joined first row rows sums (sym same)
        (added_from t sum rows sums (same_falls row sum rows same never.1) fit (subst (λ z. DedupsFrom R t z rows sums) is_sum rest))
    added_from s first (row ∷ rows) sums never fits (false, t, row', sum', call, (others, rest, is_sums)) =
        let is = adds s row first false t row' sum' call in
        let c = fits.counts in
        let c1 = sum_by-cons count_in first (row ∷ rows) in
        let n = fits.objects in
        let n1 = sum_by-cons objects_in first (row ∷ rows) in
        let fit : Fit (row ∷ rows) = record { counts = omega (arith, c, c1); objects = omega (arith, n, n1) } in
        subst (AreAddedFrom first (row ∷ rows)) (sym (is_sums ∙ ap (λ z. z ∷ others) (is.1.kept refl)))
        (sums_after first row rows others (comes_after first.by row.by never.0 is.1.same)
        (added_from t row rows others never.1 fit (subst (λ z. DedupsFrom R t z rows others) is.0 rest)))

    -- the sums of all rows
    pub added : (s : S) (rows sums : List Row) → IsSortedByKey (λ (row : Row). row.by) cmp rows → Fit rows → IsDeduped R s rows sums
        → AreAdded cmp rows sums
    added s [] sums sorted fits is = subst (AreAdded cmp []) (sym is.told)
        (record { rising = tt; numbers = λ number adds k. refl; positive = λ each. each })
    added s (first ∷ rows) sums sorted fits is = (added_from s first rows sums (never_fall first rows sorted) fits is.told).are

  -- what fits in one order fits in any
  pub fit_moved : (rows moved : List Row) → IsPermutation rows moved → Fit rows → Fit moved
  fit_moved rows moved is fits =
      let c = sum_by-IsPermutation count_in rows moved is in
      let n = sum_by-IsPermutation objects_in rows moved is in
      let counts = fits.counts in
      let objects = fits.objects in
      record { counts = omega (arith, c, counts); objects = omega (arith, n, objects) }

  -- the sums don't depend on the order of the rows
  pub added_moved : (rows moved sums : List Row) → IsPermutation rows moved → AreAdded cmp moved sums → AreAdded cmp rows sums
  added_moved rows moved sums is of_moved = record {
    rising = of_moved.rising;
    numbers = λ number adds k. of_moved.numbers number adds k ∙ sum_by-IsPermutation (at_key cmp k number) rows moved is;
    positive = λ each. of_moved.positive (λ r h. each r (Contains-permutation moved rows r (IsPermutation-sym rows moved is) h));
  }

-- ---- balances that are made of something else, of which each counts

amount_upto : {X : Type 0} (f : X → ℕ) (o : Option X) (n : ℕ) → ((x : X) → o ≡ Some x → f x ≤ n) → amount f o ≤ n
amount_upto f None n upto = omega arith
amount_upto f (Some x) n upto = upto x refl

module _ {X K : Type 0} (row_of : X → Option (Balance K)) (count_of : X → Count)
    (made : (x : X) (row : Balance K) → row_of x ≡ Some row → (row.count ≡ count_of x) × (row.objects ≤ 1))
    (xs : List X) (counted : (x : X) → Contains xs x → IsPositive (count_of x)) where
  abbrev total : X → ℕ
  total x = total_of (count_of x)

  -- where all add up to less than 2 ^ 64, their balances can be added up
  pub given_fit : sum_by total xs < 2 ^ 64 → Fit (filter_map row_of xs)
  given_fit lt =
      let counts = sum_filter_map (λ (row : Balance K). total_of row.count) row_of xs in
      let numbers = sum_filter_map (λ (row : Balance K). row.objects) row_of xs in
      let few = sum_upto (λ (x : X). amount (λ (row : Balance K). total_of row.count) (row_of x)) total xs (λ x h.
      amount_upto (λ (row : Balance K). total_of row.count) (row_of x) (total x) (λ row e.
      subst (λ (c : Count). total_of c ≤ total x) (sym (made x row e).0) (omega arith))) in
      let little = sum_upto (λ (x : X). amount (λ (row : Balance K). row.objects) (row_of x)) total xs (λ x h.
      amount_upto (λ (row : Balance K). row.objects) (row_of x) (total x) (λ row e.
      let some = counted x h in let most = (made x row e).1 in omega (arith, some, most))) in
      record { counts = omega (arith, lt, counts, few); objects = omega (arith, lt, numbers, little) }

  -- and each of these counts
  pub given_positive : (row : Balance K) → Contains (filter_map row_of xs) row → IsPositive row.count
  given_positive row h =
      let from = Contains-from_filter_map row_of xs row h in subst IsPositive (sym (made from.0 row from.2).0) (counted from.0 from.1)

-- ---- the row of a key

abbrev pub plus_of : {K : Type 0} → Balance K → ℕ
plus_of row = row.count.plus

abbrev pub minus_of : {K : Type 0} → Balance K → ℕ
minus_of row = row.count.minus

abbrev pub objects_of : {K : Type 0} → Balance K → ℕ
objects_of row = row.objects

module _ {K : Type 0} {cmp : K → K → Ordering} (o : IsTotalOrder cmp) (proper : (x y : K) → cmp x y ≡ Equal → x ≡ y) where
  key_is : (k j : K) → is_eq (cmp k j) ≡ true → k ≡ j
  key_is k j tied = proper k j (equal (cmp k j) tied)

  -- a key that comes before another isn't that
  pub apart : (k j : K) → cmp k j ≡ Less → k ≢ j
  apart k j less e =
      let tied : cmp k j ≡ Equal = ap (λ (x : K). cmp k x) (sym e) ∙ tied_itself o k in
      cc

  module _ (number : Balance K → ℕ) where
    -- a row has the sum at its key
    once : (rows : List (Balance K)) → IsRising (ByKey cmp) rows → (row : Balance K) → Contains rows row
        → sum_by (at_key cmp row.by number) rows ≡ number row
    once rows rising row h =
        sum_where_one (λ (r : Balance K). is_eq (cmp row.by r.by)) number rows
        (rising_members (ByKey cmp) _ rows (λ a b in_a in_b before of_a of_b.
        apart a.by b.by before (sym (key_is row.by a.by of_a) ∙ key_is row.by b.by of_b)) rising) row h
        (ap is_eq (tied_itself o row.by))

    -- where the sum at a key isn't zero, the key has a row
    found : (k : K) (rows : List (Balance K)) → 0 < sum_by (at_key cmp k number) rows → (row : Balance K) × Contains rows row × (row.by ≡ k)
    found k [] some = absurd (omega (arith, some))
    found k (r ∷ rows) some =
        let both = sum_by-cons (at_key cmp k number) r rows in
        elim (cases_Bool (is_eq (cmp k r.by))) [
          | inl is ↦ (r, Contains-here r rows, sym (key_is k r.by is))
          | inr not ↦
              let head : at_key cmp k number r ≡ 0 = ap (λ b. cond b (number r) 0) not in
              let there = found k rows (omega (arith, both, head, some)) in
              (there.0, Contains-there r rows there.0 there.1, there.2)
        ]

  module _ (given rows : List (Balance K)) (added : AreAdded cmp given rows)
      (counted : (row : Balance K) → Contains given row → IsPositive row.count) (used : K → Count) (number : K → ℕ)
      (refs : (k : K) → sum_by (at_key cmp k plus_of) given ≡ (used k).plus)
      (derefs : (k : K) → sum_by (at_key cmp k minus_of) given ≡ (used k).minus)
      (objects : (k : K) → sum_by (at_key cmp k objects_of) given ≡ number k) where
    -- a row says what its key was used for, and of how many objects
    pub row_is : (row : Balance K) → Contains rows row → (row.count ≡ used row.by) × IsPositive row.count × (row.objects ≡ number row.by)
    row_is row h =
        let plus = sym (once plus_of rows added.rising row h) ∙ added.numbers plus_of (λ a b. refl) row.by ∙ refs row.by in
        let minus = sym (once minus_of rows added.rising row h) ∙ added.numbers minus_of (λ a b. refl) row.by ∙ derefs row.by in (
          λ i. record { plus = plus i; minus = minus i },
          added.positive counted row h,
          sym (once objects_of rows added.rising row h) ∙ added.numbers objects_of (λ a b. refl) row.by ∙ objects row.by,
        )

    -- and a key that was used has a row
    pub key_has_row : (k : K) → IsPositive (used k) → (row : Balance K) × Contains rows row × (row.by ≡ k)
    key_has_row k some =
        elim (cases_lt 0 (used k).plus) [
          | inl plus ↦ found plus_of k rows (rw (added.numbers plus_of (λ a b. refl) k ∙ refs k) plus)
          | inr none ↦ found minus_of k rows (rw (added.numbers minus_of (λ a b. refl) k ∙ derefs k) (omega (arith, none, some)))
        ]
