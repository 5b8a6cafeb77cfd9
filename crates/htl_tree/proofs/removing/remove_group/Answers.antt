-- All rows of a group have its first row's stack.
use Rattle.std.proofs.Common.{ℕ, List, reverse, get_or, Some, ap, subst, ◌∙◌}
use Rattle.htl_event.specs.declared.slot.Slot.{Slot}
use Rattle.htl_tree.specs.Trees.{count_at}
use Rattle.htl_tree.specs.Nodes.{top, tree_of, IsNormalRoot}
use Rattle.htl_tree.specs.Rows.{entries_of, sum_at}
use Rattle.htl_tree.specs.Removed.{IsAtMost}
use Rattle.htl_tree.proofs.RowsOneMore.{no_row}
use Rattle.htl_tree.proofs.RowGroups.{first_alike, first_short}
use Rattle.htl_tree.proofs.RowsRemoved.{normal_top, nothing_top}
use Rattle.htl_tree.proofs.GroupsRemoved.{group_counted, less_top, less_tree, all_of_tree}
use Rattle.htl_tree.proofs.removing.remove_group.Goals as goal

pub remove_rows-requires-clause-counted : goal.remove_rows-requires-clause-counted
remove_rows-requires-clause-counted g c =
    let rows = c.args.group.now in
    let n = c.in-Some.node in
    let stack = (get_or rows 0 no_row).stack.now in
    let h : IsNormalRoot (Some n) = subst (λ r. IsNormalRoot r) c.in-Some.is c.requires.normal in
    group_counted (top n) h.normal stack rows (first_alike rows c.requires.group)
    (subst (λ r. (slot : Slot) (k : List ℕ) → IsAtMost (sum_at (entries_of rows) slot k) (count_at (tree_of r) slot k)) c.in-Some.is
    c.requires.counted)

pub returns-then-is_empty-clause-counts : goal.returns-then-is_empty-clause-counts
returns-then-is_empty-clause-counts g c slot k =
    let rows = c.args.group.now in
    let n = c.in-Some.node in
    let m = c.remove_rows.new.self in
    let stack = (get_or rows 0 no_row).stack.now in
    let h : IsNormalRoot (Some n) = subst (λ r. IsNormalRoot r) c.in-Some.is c.requires.normal in
    ap (λ r. count_at (tree_of r) slot k) c.in-Some.is
    ∙ all_of_tree (top n) (top m) h stack (first_short rows c.requires.group c.requires.rows) rows c.requires.group.some
    c.requires.rows.positive (first_alike rows c.requires.group) c.remove_rows.ensures.counts
    (nothing_top m (c.is_empty.ensures.empty c.if-is_empty.true)) slot k

pub returns-else-is_empty-clause-normal : goal.returns-else-is_empty-clause-normal
returns-else-is_empty-clause-normal g c =
    let n = c.in-Some.node in
    let m = c.remove_rows.new.self in
    let h : IsNormalRoot (Some n) = subst (λ r. IsNormalRoot r) c.in-Some.is c.requires.normal in
    less_top (top n) (top m) h (normal_top m c.remove_rows.ensures.normal (c.is_empty.ensures.some c.if-is_empty.false)) _ c.args.group.now
    c.remove_rows.ensures.counts

pub returns-else-is_empty-clause-counts : goal.returns-else-is_empty-clause-counts
returns-else-is_empty-clause-counts g c slot k =
    let rows = c.args.group.now in
    let n = c.in-Some.node in
    let m = c.remove_rows.new.self in
    let stack = (get_or rows 0 no_row).stack.now in
    let h : IsNormalRoot (Some n) = subst (λ r. IsNormalRoot r) c.in-Some.is c.requires.normal in
    ap (λ r. count_at (tree_of r) slot k) c.in-Some.is
    ∙ less_tree (top n) (top m) h stack (first_short rows c.requires.group c.requires.rows) rows c.requires.group.some
    c.requires.rows.positive (first_alike rows c.requires.group) c.remove_rows.ensures.counts
    (less_top (top n) (top m) h (normal_top m c.remove_rows.ensures.normal (c.is_empty.ensures.some c.if-is_empty.false)) (reverse stack) rows
    c.remove_rows.ensures.counts) slot k
