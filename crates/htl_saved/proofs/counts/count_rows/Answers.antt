-- The counts that the tree lists are its tally: the table has their stacks, and their rows are those of the tally.
use Rattle.std.proofs.Common.{◌≡◌, List, map, sym, ap, ◌∙◌, subst}
use Rattle.std.proofs.lemmas.Result.{IfOk-weaker}
use Rattle.htl_tree.specs.Trees.{by_stack}
use Rattle.htl_saved.specs.Tables.{HasAll, count_row}
use Rattle.htl_saved.proofs.Tallies.{Listed, Counted, map_after}
use Rattle.htl_saved.proofs.counts.count_rows.Goals as goal

pub rows_of_counts-requires-clause-here : goal.rows_of_counts-requires-clause-here
rows_of_counts-requires-clause-here g c =
    let counts = c.in_ok-counts.counts.items in
    let stacks : map (λ (row : Listed). row.0.1) counts ≡ map (λ (row : Counted). row.0.0) c.args.tree.now =
    map_after (λ (row : Counted). row.0.0) by_stack counts ∙ ap (map (λ (row : Counted). row.0.0)) c.in_ok-counts.ensures in
    subst (λ (l : List Listed). HasAll c.args.table.now (map (λ (row : Listed). row.0.1) l)) (sym c.deref.ensures.value)
    (subst (HasAll c.args.table.now) (sym stacks) c.requires.here)

pub returns : goal.returns
returns g c =
    let table = c.args.table.now in
    let counts = c.in_ok-counts.counts.items in
    let same : map (λ (row : Listed). count_row table (by_stack row)) c.deref.result.now ≡ map (count_row table) c.args.tree.now =
    ap (map (λ (row : Listed). count_row table (by_stack row))) c.deref.ensures.value
    ∙ map_after (count_row table) by_stack counts ∙ ap (map (count_row table)) c.in_ok-counts.ensures in
    IfOk-weaker c.rows_of_counts.result _ _ (λ rows is. is ∙ same) c.rows_of_counts.ensures
