-- Rows that are a tally have room in a tree, and are all that it lists.
use Rattle.std.proofs.Common.{sym, ap, ◌∙◌, subst, arith}
use Rattle.htl_event.specs.Tallies.{IsPositive}
use Rattle.htl_sorted.specs.Entries.{Each}
use Rattle.htl_tree.specs.Trees.{Tree, total_count}
use Rattle.htl_tree.specs.Rows.{entries_of, AreShort}
use Rattle.htl_tree.proofs.RowsOfTally.{total_turned, positive_turned, tree_of_tally}
use Rattle.htl_tree.proofs.tally.root_of_tally.Goals as goal

pub add_sorted_rows-requires-clause-rows : goal.add_sorted_rows-requires-clause-rows
add_sorted_rows-requires-clause-rows g c = subst (λ l. AreShort l) (sym c.deref.ensures.value) (record {
  positive = subst (λ (t : Tree). Each IsPositive t) (sym c.in_ok-rows.ensures.entries)
      (positive_turned c.args.rows.now c.requires.positive);
  short = c.in_ok-rows.ensures.short;
})

pub add_sorted_rows-requires-clause-fits : goal.add_sorted_rows-requires-clause-fits
add_sorted_rows-requires-clause-fits g c =
    let all = ap total_count (ap entries_of c.deref.ensures.value ∙ c.in_ok-rows.ensures.entries) in
    omega (arith, all, total_turned c.args.rows.now, c.requires.fits)

pub returns : goal.returns
returns g c =
    let added = c.in_ok-add_sorted_rows.ensures in (
      added.0,
      tree_of_tally c.add_sorted_rows.new.root c.args.rows.now c.deref.result.now c.requires
          (ap entries_of c.deref.ensures.value ∙ c.in_ok-rows.ensures.entries) added.0 added.1,
    )
