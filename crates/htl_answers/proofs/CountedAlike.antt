-- Rows still count what others do where the same is counted in both.
use Rattle.std.proofs.Common.{◌≡◌, ℕ, suc, ◌+◌, ◌<◌, true, false, cond, List, [], ◌∷◌, ◌++◌, length, get_or, take, drop, set}
use Rattle.std.proofs.Common.{refl, sym, ap, subst, ◌∙◌, arith, inl, inr}
use Rattle.std.specs.List.{sum_by}
use Rattle.std.specs.Ordering.{is_eq}
use Rattle.std.specs.declared.cmp.Ordering.{Ordering}
use Rattle.std.proofs.lemmas.List.{take-append-drop, drop_more, set_split}
use Rattle.std.proofs.lemmas.List.Elements.{Contains-append_cases, Contains-append_left, Contains-append_right}
use Rattle.std.proofs.lemmas.List.Sums.{sum_by-cons, sum_by-append}
use Rattle.htl_event.specs.declared.slot.Count.{Count}
use Rattle.htl_event.specs.Tallies.{plus_count, total_of, IsPositive}
use Rattle.htl_event.proofs.Members.{Contains-here, Contains-there, Contains-cases}
use Rattle.htl_answers.specs.Rows.{at_key, count_of, EachPositive, CountAlike}
use Rattle.htl_answers.proofs.RowCounts.{plus_side, minus_side, count_of-append}

-- where no row of two lists counts zero, none of both together does
pub positive_both : {K : Type 0} (xs ys : List (K × Count)) → EachPositive xs → EachPositive ys → EachPositive (xs ++ ys)
positive_both xs ys of_xs of_ys row h = elim (Contains-append_cases xs ys row h) [
  | inl left ↦ of_xs row left
  | inr right ↦ of_ys row right
]

module _ {K : Type 0} (cmp : K → K → Ordering) where
  -- rows count what they count
  pub alike_itself : (rows : List (K × Count)) → CountAlike cmp rows rows
  alike_itself rows = record { counts = λ k. refl; total = refl; positive = λ each. each }

  -- more that is counted after both
  pub alike_more : (others rows more new : List (K × Count)) → CountAlike cmp others rows → CountAlike cmp (rows ++ more) new
      → CountAlike cmp (others ++ more) new
  alike_more others rows more new before after = record {
    counts = λ k. after.counts k ∙ count_of-append cmp k rows more ∙ ap (λ c. plus_count c (count_of cmp k more)) (before.counts k)
        ∙ sym (count_of-append cmp k others more);
    total =
        let left = sum_by-append (λ (r : K × Count). total_of r.1) rows more in
        let right = sum_by-append (λ (r : K × Count). total_of r.1) others more in
        let so_far = before.total in
        let then = after.total in
        omega (arith, left, right, so_far, then);
    positive = λ each. after.positive (positive_both rows more (before.positive (λ r h. each r (Contains-append_left others more r h)))
        (λ r h. each r (Contains-append_right others more r h)));
  }

  -- a row is joined to one of its key that stands among others
  module _ (front back : List (K × Count)) (x row : K × Count) (same : x.0 ≡ row.0) where
    abbrev sum : K × Count
    sum = (x.0, plus_count x.1 row.1)

    number : (f : K × Count → ℕ) → f sum ≡ f x + f row → sum_by f (front ++ sum ∷ back) ≡ sum_by f ((front ++ x ∷ back) ++ row ∷ [])
    number f both =
        let left = sum_by-append f front (sum ∷ back) in
        let one = sum_by-cons f sum back in
        let right = sum_by-append f (front ++ x ∷ back) (row ∷ []) in
        let other = sum_by-cons f row [] in
        let whole = sum_by-append f front (x ∷ back) in
        let inner = sum_by-cons f x back in
        omega (arith, left, one, right, other, whole, inner, both)

    at_both : (side : Count → ℕ) → ((c d : Count) → side (plus_count c d) ≡ side c + side d) → (k : K)
        → at_key cmp k side sum ≡ at_key cmp k side x + at_key cmp k side row
    at_both side adds k = (elim (is_eq (cmp k x.0)) as (λ b. is_eq (cmp k x.0) ≡ b
        → cond b (side (plus_count x.1 row.1)) 0 ≡ cond b (side x.1) 0 + at_key cmp k side row) [
          | true ↦ λ e. let t : at_key cmp k side row ≡ side row.1 = ap (λ b. cond b (side row.1) 0) (ap (λ z. is_eq (cmp k z)) (sym same) ∙ e) in
              let a = adds x.1 row.1 in omega (arith, t, a)
          | false ↦ λ e. let t : at_key cmp k side row ≡ 0 = ap (λ b. cond b (side row.1) 0) (ap (λ z. is_eq (cmp k z)) (sym same) ∙ e) in
              omega (arith, t)
        ]) refl

    more : (c d : Count) → IsPositive c → IsPositive (plus_count c d)
    more c d some = omega (arith, some)

    -- a row joined to one of its key counts what both did apart
    pub joined_alike : CountAlike cmp ((front ++ x ∷ back) ++ row ∷ []) (front ++ sum ∷ back)
    joined_alike = record {
      counts = λ k.
          let p = number (at_key cmp k plus_side) (at_both plus_side (λ c d. refl) k) in
          let m = number (at_key cmp k minus_side) (at_both minus_side (λ c d. refl) k) in
          λ i. record { plus = p i; minus = m i };
      total = number (λ r. total_of r.1) (omega arith);
      positive = λ each.
          let of_rows : EachPositive (front ++ x ∷ back) = λ r h. each r (Contains-append_left (front ++ x ∷ back) (row ∷ []) r h) in
          positive_both front (sum ∷ back) (λ r h. of_rows r (Contains-append_left front (x ∷ back) r h)) (λ r h. (elim (Contains-cases sum back r h) [
            | inl is ↦ subst (λ z. IsPositive z.1) is (more x.1 row.1 (of_rows x (Contains-append_right front (x ∷ back) x (Contains-here x back))))
            | inr there ↦ of_rows r (Contains-append_right front (x ∷ back) r (Contains-there x back r there))
          ]));
    }

  -- the row at a place counts one more
  pub counted_there : (rows : List (K × Count)) (i : ℕ) (x row : K × Count) → i < length rows → x ≡ get_or rows i x → x.0 ≡ row.0
      → CountAlike cmp (rows ++ row ∷ []) (set rows i (x.0, plus_count x.1 row.1))
  counted_there rows i x row lt at same =
      let one_on : suc i ≡ i + 1 = omega arith in
      let parts : take i rows ++ x ∷ drop (suc i) rows ≡ rows =
      ap (λ z. take i rows ++ z ∷ drop (suc i) rows) at ∙ ap (λ n. take i rows ++ get_or rows i x ∷ drop n rows) one_on
      ∙ ap (λ l. take i rows ++ l) (sym (drop_more rows i x lt)) ∙ take-append-drop i rows in
      subst (λ l. CountAlike cmp (rows ++ row ∷ []) l) (sym (set_split rows i (x.0, plus_count x.1 row.1) lt))
      (subst (λ l. CountAlike cmp (l ++ row ∷ []) (take i rows ++ (x.0, plus_count x.1 row.1) ∷ drop (suc i) rows)) parts
      (joined_alike (take i rows) (drop (suc i) rows) x row same))
