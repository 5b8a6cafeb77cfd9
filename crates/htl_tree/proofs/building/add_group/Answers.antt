-- All rows of a group have its first row's stack.
use Rattle.std.proofs.Common.{◌+◌, ◌<◌, ◌^◌}
use Rattle.std.proofs.Common.{get_or, Some, sym, ap, ◌∙◌, subst, arith}
use Rattle.htl_event.specs.Tallies.{total_of}
use Rattle.htl_tree.specs.Trees.{count_at}
use Rattle.htl_tree.specs.Nodes.{top, tree_of, IsNormalRoot}
use Rattle.htl_tree.specs.Rows.{entries_of, sum_at, slot_sum, WithRows}
use Rattle.htl_tree.proofs.RowsOneMore.{no_row}
use Rattle.htl_tree.proofs.RowGroups.{gained_tree, leaf_tree, group_sum, first_alike, first_short}
use Rattle.htl_tree.proofs.CountAdded.{match_result}
use Rattle.htl_tree.proofs.Roots.{count_tree, kept_tree}
use Rattle.htl_tree.proofs.building.add_group.Goals as goal

pub add_rows-requires-clause-fits : goal.add_rows-requires-clause-fits
add_rows-requires-clause-fits g c slot =
    let rows = c.args.group.now in
    let stack = (get_or rows 0 no_row).stack.now in
    let alike = first_alike rows c.requires.group in
    let h : IsNormalRoot (Some c.in-Some.root) = subst (λ r. IsNormalRoot r) c.in-Some.is c.requires.normal in
    let fits : total_of (count_at (tree_of (Some c.in-Some.root)) slot stack) + total_of
    (sum_at (entries_of rows) slot stack) < 2 ^ 64 =
    subst (λ r. total_of (count_at (tree_of r) slot stack) + total_of (sum_at (entries_of rows) slot stack) < 2 ^ 64) c.in-Some.is
    (c.requires.fits slot stack) in
    subst (λ k. total_of k + total_of (slot_sum slot rows) < 2 ^ 64) (count_tree (top c.in-Some.root) h.normal slot stack)
    (subst (λ k. total_of (count_at (tree_of (Some c.in-Some.root)) slot stack) + total_of k < 2 ^ 64)
    (sym (group_sum rows stack alike slot)) fits)

pub returns-in-Some : goal.returns-in-Some
returns-in-Some g c =
    let rows = c.args.group.now in
    let stack = (get_or rows 0 no_row).stack.now in
    let h : IsNormalRoot (Some c.in-Some.root) = subst (λ r. IsNormalRoot r) c.in-Some.is c.requires.normal in
    match_result c.add_rows.result c.add_rows.ensures
    (λ x gained. let now = gained_tree (top c.in-Some.root) (top c.add_rows.new.self) h stack
    (first_short rows c.requires.group c.requires.rows) rows
    c.requires.group.some c.requires.rows.positive (first_alike rows c.requires.group) gained in
    (now.0, subst (λ r. WithRows (tree_of (Some c.add_rows.new.self)) (tree_of r) rows) (sym c.in-Some.is) now.1))
    (λ x kept. let now = kept_tree (top c.in-Some.root) (top c.add_rows.new.self) h kept in (now.0, now.1 ∙ ap (λ r. tree_of r) (sym c.in-Some.is)))

pub leaf_of_rows-requires-clause-fits : goal.leaf_of_rows-requires-clause-fits
leaf_of_rows-requires-clause-fits g c slot =
    let rows = c.args.group.now in
    let stack = (get_or rows 0 no_row).stack.now in
    let fits = c.requires.fits slot stack in
    let is = ap total_of (group_sum rows stack (first_alike rows c.requires.group) slot) in
    omega (arith, fits, is)

pub returns : goal.returns
returns g c =
    let rows = c.args.group.now in
    let stack = (get_or rows 0 no_row).stack.now in
    let now = leaf_tree (top c.in_ok-leaf.leaf) stack (first_short rows c.requires.group c.requires.rows) rows c.requires.group.some
    c.requires.rows.positive (first_alike rows c.requires.group) c.in_ok-leaf.ensures in
    (now.0, subst (λ r. WithRows (tree_of (Some c.in_ok-leaf.leaf)) (tree_of r) rows) (sym c.in_default.is) now.1)
