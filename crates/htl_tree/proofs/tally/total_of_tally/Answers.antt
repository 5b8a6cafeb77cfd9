-- Rows that fail a test are no tally, and those that pass all are one.
use Rattle.std.proofs.Common.{◌∙◌, sym}
use Rattle.htl_tree.proofs.RowsOfTally.{positive_all, is_tally}
use Rattle.htl_tree.proofs.tally.total_of_tally.Goals.{then-not-are_in_order-via-then-not-are_in_order}
use Rattle.htl_tree.proofs.tally.total_of_tally.Goals.{then-not-are_in_order-via-else-not-are_in_order+then-not-all_count}
use Rattle.htl_tree.proofs.tally.total_of_tally.Goals as goal

pub returns-then-not-are_in_order-clause-none : goal.returns-then-not-are_in_order-clause-none
returns-then-not-are_in_order-clause-none c none tally = elim c.then-not-are_in_order.branch [
  | then-not-are_in_order-via-then-not-are_in_order w ↦
      let yes = c.are_in_order.ensures.1 tally.rising in
      let no = w.if-not-are_in_order.true in
      cc
  | then-not-are_in_order-via-else-not-are_in_order+then-not-all_count w ↦
      let yes = w.all_count.ensures ∙ positive_all c.args.rows.now tally.positive in
      let no = w.if-not-all_count.true in
      cc
]

pub returns-clause-some : goal.returns-clause-some
returns-clause-some c =
    is_tally c.args.rows.now c.total_of_rows.result (c.are_in_order.ensures.0 c.if-not-are_in_order.false)
    (sym c.all_count.ensures ∙ c.if-not-all_count.false) c.total_of_rows.ensures.some
