-- Rows in order without a sequence of 0 are a table, and no others are.
use Rattle.std.proofs.Common.{◌≡◌, ℕ, List, true, false, nat_lt, refl, sym, ◌∙◌, subst}
use Rattle.std.specs.List.{list_all}
use Rattle.std.specs.Ordering.{nat_cmp}
use Rattle.htl_sorted.specs.Entries.{IsSorted}
use Rattle.htl_tables.specs.Greatest.{sequences}
use Rattle.htl_tables.proofs.Positive.{all_positive, positive_all}
use Rattle.htl_tables.proofs.greatest.Greatest.of_rows.Goals as goal
use Rattle.htl_tables.proofs.greatest.Greatest.of_rows.Goals.{else-are_in_order-via-then-are_in_order+else-are_positive}
use Rattle.htl_tables.proofs.greatest.Greatest.of_rows.Goals.{else-are_in_order-via-else-are_in_order}

abbrev AllAbove : List (ℕ × ℕ) → Type 0
AllAbove rows = list_all (λ (row : ℕ × ℕ). nat_lt 0 row.1) rows ≡ true

abbrev InOrder : List (ℕ × ℕ) → Type 0
InOrder rows = IsSorted nat_cmp (sequences rows)

pub invariant_of-result : goal.invariant_of-result
invariant_of-result g c = record {
  sorted = subst InOrder c.deref.ensures.value (c.are_in_order.ensures.0 c.if-are_in_order.true);
  positive = all_positive c.args.rows.items
      (subst AllAbove c.deref-then-are_in_order.ensures.value (sym c.are_positive.ensures ∙ c.if-are_positive.true));
}

pub returns-then-are_positive-clause-ok : goal.returns-then-are_positive-clause-ok
returns-then-are_positive-clause-ok g c = (invariant_of-result g c, refl)

pub returns-else-are_in_order-clause-err : goal.returns-else-are_in_order-clause-err
returns-else-are_in_order-clause-err g c = (
  (λ table. elim c.else-are_in_order.branch [
    | else-are_in_order-via-then-are_in_order+else-are_positive w ↦
        let all : AllAbove w.deref-then-are_in_order.result.now =
        subst AllAbove (sym w.deref-then-are_in_order.ensures.value) (positive_all c.args.rows.items table.positive) in
        let clash : true ≡ false = sym all ∙ sym w.are_positive.ensures ∙ w.if-are_positive.false in
        absurd (cc)
    | else-are_in_order-via-else-are_in_order w ↦
        let sorted : c.are_in_order.result ≡ true =
        c.are_in_order.ensures.1 (subst InOrder (sym c.deref.ensures.value) table.sorted) in
        let clash : true ≡ false = sym sorted ∙ w.if-are_in_order.false in
        absurd (cc)
  ]),
  refl,
)
