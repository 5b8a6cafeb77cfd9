-- A turn swaps one row more into its bucket, or none.
use Rattle.std.proofs.Common.{List, sym, subst}
use Rattle.std.specs.List.Sorted.{IsPermutation}
use Rattle.std.proofs.lemmas.List.Sorted.{IsPermutation-trans}
use Rattle.htl_tree.specs.declared.row.Row.{Row}
use Rattle.htl_tree.proofs.sorting.put_in_buckets.Goals.{then-place-rows, else-place-rows}
use Rattle.htl_tree.proofs.sorting.put_in_buckets.Goals as goal

pub loop-preserved : goal.loop-preserved
loop-preserved c = elim c.if-place-rows.branch [
  | then-place-rows w ↦ subst (λ (l : List Row). IsPermutation c.args.rows.now l) (sym w.rows-is) c.loop.invariant
  | else-place-rows w ↦ subst (λ (l : List Row). IsPermutation c.args.rows.now l) (sym w.rows-is)
      (IsPermutation-trans c.args.rows.now c.loop.rows w.put_in_bucket.new.rows c.loop.invariant w.put_in_bucket.ensures)
]
