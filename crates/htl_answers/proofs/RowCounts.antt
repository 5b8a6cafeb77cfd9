-- How often keys came is counted by rows: over two lists, in any order, and where rows have each key once.
use Rattle.std.proofs.Common.{◌≡◌, ◌≢◌, ℕ, zero, suc, ◌<◌, ◌≤◌, Bool, true, false, cond, List, [], ◌∷◌, ◌++◌, refl, sym, ap, subst, ◌∙◌, arith, inl, inr}
use Rattle.std.specs.Prelude.{Contains}
use Rattle.std.specs.List.{sum_by}
use Rattle.std.specs.List.Sorted.{IsPermutation}
use Rattle.std.specs.Cmp.{IsTotalOrder, tied_itself}
use Rattle.std.specs.Ordering.{is_eq}
use Rattle.std.specs.declared.cmp.Ordering.{Ordering}
use Rattle.std.specs.declared.cmp.Ordering.TheVariants.{Equal}
use Rattle.std.proofs.lemmas.Bool.{cases_Bool, false≢true}
use Rattle.std.proofs.lemmas.List.Sorted.{sum_by-IsPermutation}
use Rattle.std.proofs.lemmas.List.Sums.{sum_by-cons, sum_by-append, sum_by-le-sum_by}
use Rattle.htl_event.specs.declared.slot.Count.{Count}
use Rattle.htl_event.specs.Members.{IsRising, Lists}
use Rattle.htl_event.specs.Tallies.{zero_count, plus_count, total_of, IsPositive}
use Rattle.htl_event.proofs.Members.{Contains-here, Contains-there, Contains-cases, Contains-nil, at_member}
use Rattle.htl_answers.specs.Rows.{at_key, count_of, total_in, EachPositive}
use Rattle.htl_answers.proofs.NumberSums.{sum_upto, sum_swap}
use Rattle.htl_lemmas.proofs.Tests.{equal}

-- the number on the plus side
abbrev pub plus_side : Count → ℕ
plus_side count = count.plus

-- the number on the minus side
abbrev pub minus_side : Count → ℕ
minus_side count = count.minus

module _ {K : Type 0} (cmp : K → K → Ordering) (k : K) where
  -- a key came as often in two lists of rows together as in both in sum
  pub count_of-append : (xs ys : List (K × Count)) → count_of cmp k (xs ++ ys) ≡ plus_count (count_of cmp k xs) (count_of cmp k ys)
  count_of-append xs ys =
      let p = sum_by-append (at_key cmp k plus_side) xs ys in
      let m = sum_by-append (at_key cmp k minus_side) xs ys in
      λ i. record { plus = p i; minus = m i }

  -- a key came as often in rows that are in another order
  pub count_of-moved : (xs ys : List (K × Count)) → IsPermutation xs ys → count_of cmp k ys ≡ count_of cmp k xs
  count_of-moved xs ys moved =
      let p = sum_by-IsPermutation (at_key cmp k plus_side) xs ys moved in
      let m = sum_by-IsPermutation (at_key cmp k minus_side) xs ys moved in
      λ i. record { plus = p i; minus = m i }

-- ---- rows that have each key once

module _ {K : Type 0} {cmp : K → K → Ordering} (o : IsTotalOrder cmp) (proper : (x y : K) → cmp x y ≡ Equal → x ≡ y)
    {before : K × Count → K × Count → Type 0} (apart : (a b : K × Count) → before a b → a.0 ≢ b.0) where
  differs : (k j : K) → k ≢ j → is_eq (cmp k j) ≡ false
  differs k j other =
      elim (cases_Bool (is_eq (cmp k j))) [
        | inl is ↦ absurd (other (proper k j (equal (cmp k j) is)))
        | inr not ↦ not
      ]

  same : (k : K) → is_eq (cmp k k) ≡ true
  same k = ap is_eq (tied_itself o k)

  others : (row : K × Count) (rows : List (K × Count)) → IsRising before (row ∷ rows) → (r : K × Count) → Contains rows r → row.0 ≢ r.0
  others row rows rising r h = apart row r (at_member (before row) rows r rising.0 h)

  module _ (side : Count → ℕ) where
    elsewhere : (k : K) (rows : List (K × Count)) → ((r : K × Count) → Contains rows r → k ≢ r.0) → sum_by (at_key cmp k side) rows ≡ 0
    elsewhere k [] none = refl
    elsewhere k (r ∷ rows) none =
        let rest = elsewhere k rows (λ x h. none x (Contains-there r rows x h)) in
        let head : at_key cmp k side r ≡ 0 = ap (λ b. cond b (side r.1) 0) (differs k r.0 (none r (Contains-here r rows))) in
        let both = sum_by-cons (at_key cmp k side) r rows in
        omega (arith, rest, head, both)

    once : (rows : List (K × Count)) → IsRising before rows → (row : K × Count) → Contains rows row
        → sum_by (at_key cmp row.0 side) rows ≡ side row.1
    once [] rising row h = absurd (Contains-nil row h)
    once (r ∷ rows) rising row h =
        let both = sum_by-cons (at_key cmp row.0 side) r rows in
        elim (Contains-cases r rows row h) [
          | inl is ↦
              let at : row.0 ≡ r.0 = ap (λ (x : K × Count). x.0) (sym is) in
              let rest = elsewhere row.0 rows (λ x g e. others r rows rising x g (sym at ∙ e)) in
              let head : at_key cmp row.0 side r ≡ side row.1 = ap (λ x. at_key cmp row.0 side x) is
              ∙ ap (λ b. cond b (side row.1) 0) (same row.0) in
              omega (arith, both, rest, head)
          | inr there ↦
              let rest = once rows rising.1 row there in
              let head : at_key cmp row.0 side r ≡ 0 = ap (λ b. cond b (side r.1) 0)
              (differs row.0 r.0 (λ e. others r rows rising row there (sym e))) in
              omega (arith, both, rest, head)
        ]

    found : (k : K) (rows : List (K × Count)) → 0 < sum_by (at_key cmp k side) rows
        → (row : K × Count) × Contains rows row × (row.0 ≡ k)
    found k [] some = absurd (omega (arith, some))
    found k (r ∷ rows) some =
        let both = sum_by-cons (at_key cmp k side) r rows in
        elim (cases_Bool (is_eq (cmp k r.0))) [
          | inl is ↦ (r, Contains-here r rows, sym (proper k r.0 (equal (cmp k r.0) is)))
          | inr not ↦
              let head : at_key cmp k side r ≡ 0 = ap (λ b. cond b (side r.1) 0) not in
              let there = found k rows (omega (arith, both, head, some)) in
              (there.0, Contains-there r rows there.0 there.1, there.2)
        ]

  -- a row's key came as often as the row says
  pub count_of-row : (rows : List (K × Count)) → IsRising before rows → (row : K × Count) → Contains rows row
      → count_of cmp row.0 rows ≡ row.1
  count_of-row rows rising row h =
      let p = once plus_side rows rising row h in
      let m = once minus_side rows rising row h in
      λ i. record { plus = p i; minus = m i }

  count_of-none : (k : K) (rows : List (K × Count)) → ((r : K × Count) → Contains rows r → k ≢ r.0) → count_of cmp k rows ≡ zero_count
  count_of-none k rows none =
      let p = elsewhere plus_side k rows none in
      let m = elsewhere minus_side k rows none in
      λ i. record { plus = p i; minus = m i }

  there : (k : K) (rows : List (K × Count)) → IsPositive (count_of cmp k rows) → (row : K × Count) × Contains rows row × (row.0 ≡ k)
  there k rows some =
      let p = sum_by (at_key cmp k plus_side) rows in
      (elim p as (λ n. p ≡ n → (row : K × Count) × Contains rows row × (row.0 ≡ k)) [
        | zero ↦ λ e. found minus_side k rows (omega (arith, some, e))
        | suc n ↦ λ e. found plus_side k rows (omega (arith, e))
      ]) refl

  -- a key that came has its row
  pub row_there : (rows : List (K × Count)) → IsRising before rows → (row : K × Count) → count_of cmp row.0 rows ≡ row.1
      → IsPositive row.1 → Contains rows row
  row_there rows rising row is some =
      let at = there row.0 rows (subst IsPositive (sym is) some) in
      let count : at.0.1 ≡ row.1 = sym (count_of-row rows rising at.0 at.1) ∙ ap (λ k. count_of cmp k rows) at.2 ∙ is in
      let whole : at.0 ≡ row = pair at.0 row at.2 count in
      subst (λ r. Contains rows r) whole at.1
    where
      pair : (x y : K × Count) → x.0 ≡ y.0 → x.1 ≡ y.1 → x ≡ y
      pair x y e f = λ i. (e i, f i)

  no_count : (count : Count) → (IsPositive count → ⊥) → count ≡ zero_count
  no_count count none =
      let p : count.plus ≡ 0 = zero_or count.plus (λ some. none (omega (arith, some))) in
      let m : count.minus ≡ 0 = zero_or count.minus (λ some. none (omega (arith, some))) in
      λ i. record { plus = p i; minus = m i }
    where
      zero_or : (n : ℕ) → (0 < n → ⊥) → n ≡ 0
      zero_or zero not = refl
      zero_or (suc n) not = absurd (not (omega arith))

  -- rows that list how often the keys that are asked for came
  pub count_of-listed : (f : K → Count) (asked : K → Bool) (rows : List (K × Count))
      → Lists before (λ row. (row.1 ≡ f row.0) × IsPositive row.1 × (asked row.0 ≡ true)) rows
      → (k : K) → count_of cmp k rows ≡ cond (asked k) (f k) zero_count
  count_of-listed f asked rows listed k =
      elim (cases_Bool (asked k)) [
        | inl is ↦
            let whole : count_of cmp k rows ≡ f k = elim (total_of (f k)) as (λ n. total_of (f k) ≡ n → count_of cmp k rows ≡ f k) [
              | zero ↦ λ e. count_of-none k rows (λ r h at.
                  let row = (listed.members r).0 h in
                  let some = subst IsPositive (row.0 ∙ ap f (sym at)) row.1 in
                  absurd (omega (arith, some, e))) ∙ sym (no_count (f k) (λ some. omega (arith, some, e)))
              | suc n ↦ λ e. count_of-row rows listed.rising (k, f k) ((listed.members (k, f k)).1 (refl, omega (arith, e), is))
            ] refl in
            whole ∙ ap (λ b. cond b (f k) zero_count) (sym is)
        | inr not ↦
            count_of-none k rows (λ r h at. absurd (false≢true (sym not ∙ ap asked at ∙ ((listed.members r).0 h).2)))
            ∙ ap (λ b. cond b (f k) zero_count) (sym not)
      ]

  -- rows whose keys came so often list that
  pub listed_counts : (f : K → Count) (asked : K → Bool) (rows : List (K × Count)) → IsRising before rows → EachPositive rows
      → ((k : K) → count_of cmp k rows ≡ cond (asked k) (f k) zero_count)
      → Lists before (λ row. (row.1 ≡ f row.0) × IsPositive row.1 × (asked row.0 ≡ true)) rows
  listed_counts f asked rows rising positive counts = record { rising = rising; members = λ row. (from row, into row) }
    where
      from : (row : K × Count) → Contains rows row → (row.1 ≡ f row.0) × IsPositive row.1 × (asked row.0 ≡ true)
      from row h = go (asked row.0) refl (sym (count_of-row rows rising row h) ∙ counts row.0)
        where
          some : IsPositive row.1
          some = positive row h

          go : (b : Bool) → asked row.0 ≡ b → row.1 ≡ cond b (f row.0) zero_count
              → (row.1 ≡ f row.0) × IsPositive row.1 × (asked row.0 ≡ true)
          go true at is = (is, some, at)
          go false at is = let none : IsPositive zero_count = subst IsPositive is some in absurd (omega (arith, none))

      into : (row : K × Count) → (row.1 ≡ f row.0) × IsPositive row.1 × (asked row.0 ≡ true) → Contains rows row
      into row h = row_there rows rising row (counts row.0 ∙ ap (λ b. cond b (f row.0) zero_count) h.2 ∙ sym h.0) h.1

  -- ---- rows of different keys count no more than what they were counted of

  module _ {X : Type 0} (key : X → K) (size : X → ℕ) (xs : List X) where
    abbrev part : K × Count → X → ℕ
    part row x = cond (is_eq (cmp row.0 (key x))) (size x) 0

    none_part : (x : X) (rows : List (K × Count)) → ((r : K × Count) → Contains rows r → r.0 ≢ key x) → sum_by (λ row. part row x) rows ≡ 0
    none_part x [] none = refl
    none_part x (r ∷ rows) none =
        let rest = none_part x rows (λ y h. none y (Contains-there r rows y h)) in
        let head : part r x ≡ 0 = ap (λ b. cond b (size x) 0) (differs r.0 (key x) (none r (Contains-here r rows))) in
        let both = sum_by-cons (λ row. part row x) r rows in
        omega (arith, rest, head, both)

    upto_once : (x : X) (rows : List (K × Count)) → IsRising before rows → sum_by (λ row. part row x) rows ≤ size x
    upto_once x [] rising = omega arith
    upto_once x (r ∷ rows) rising =
        let both = sum_by-cons (λ row. part row x) r rows in
        elim (cases_Bool (is_eq (cmp r.0 (key x)))) [
          | inl is ↦
              let at = proper r.0 (key x) (equal (cmp r.0 (key x)) is) in
              let rest = none_part x rows (λ y h e. others r rows rising y h (at ∙ sym e)) in
              let head : part r x ≡ size x = ap (λ b. cond b (size x) 0) is in
              omega (arith, both, rest, head)
          | inr not ↦
              let rest = upto_once x rows rising.1 in
              let head : part r x ≡ 0 = ap (λ b. cond b (size x) 0) not in
              omega (arith, both, rest, head)
        ]

    -- rows of different keys, each counting no more than the elements of its key, count no more in all than all elements
    pub total_upto : (rows : List (K × Count)) → IsRising before rows
        → ((row : K × Count) → Contains rows row → total_of row.1 ≤ sum_by (part row) xs) → total_in rows ≤ sum_by size xs
    total_upto rows rising each =
        let all = sum_upto (λ (row : K × Count). total_of row.1) (λ (row : K × Count). sum_by (part row) xs) rows each in
        let swapped = sum_swap part rows xs in
        let upto = sum_by-le-sum_by (λ (x : X). sum_by (λ row. part row x) rows) size xs (λ x. upto_once x rows rising) in
        omega (arith, all, swapped, upto)
