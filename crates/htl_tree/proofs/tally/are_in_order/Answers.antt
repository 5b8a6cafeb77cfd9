-- Each row comes before the next exactly where the rows rise.
use Rattle.std.proofs.Common.{rules}
use Rattle.std.specs.Ordering.{is_lt}
use Rattle.std.proofs.lemmas.List.Sorted.{answers_always}
use Rattle.htl_tree.proofs.RowsOfTally.{Counted, row_cmp, rises_if}
use Rattle.htl_tree.proofs.tally.are_in_order.Goals as goal

pub returns : goal.returns
returns c = rises_if c.args.rows.now c.is_sorted_by.result
    (c.is_sorted_by.ensures.cases (λ (a b : Counted). is_lt (row_cmp a b)) (answers_always _ _ _ (λ f a r g h. search rules)))
