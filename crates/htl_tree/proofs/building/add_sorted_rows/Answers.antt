-- The groups of the rows count what the rows count.
use Rattle.std.proofs.Common.{List, sym, ap, ◌∙◌, subst, arith}
use Rattle.std.specs.Borrow.{Bor}
use Rattle.std.specs.List.{AllByRecursion}
use Rattle.std.proofs.lemmas.List.Sorted.{IsPermutation-refl}
use Rattle.htl_event.specs.Tallies.{total_of}
use Rattle.htl_event.proofs.Members.{each_member}
use Rattle.htl_tree.specs.declared.row.Row.{Row}
use Rattle.htl_tree.specs.Nodes.{tree_of}
use Rattle.htl_tree.specs.Rows.{entries_of, sum_at, AreShort}
use Rattle.htl_tree.proofs.TreesAsLists.{count_le_total}
use Rattle.htl_tree.proofs.RowGroups.{rows_of, sum_at_most, short_group}
use Rattle.htl_tree.proofs.building.add_sorted_rows.Goals as goal

pub add_groups-requires-clause-rows : goal.add_groups-requires-clause-rows
add_groups-requires-clause-rows g c =
    let rows = c.args.rows.now in
    let gs = c.in_ok-groups.groups.items in
    subst (λ (l : List (Bor (List Row))). AllByRecursion (λ (group : Bor (List Row)). AreShort group.now) l) (sym c.deref.ensures.value)
    (each_member (λ (group : Bor (List Row)). AreShort group.now) gs
    (short_group rows rows gs gs c.requires.rows (IsPermutation-refl rows) c.in_ok-groups.ensures.all (IsPermutation-refl gs)))

pub add_groups-requires-clause-fits : goal.add_groups-requires-clause-fits
add_groups-requires-clause-fits g c slot stack =
    let rows = c.args.rows.now in
    let all = ap (λ (l : List Row). total_of (sum_at (entries_of l) slot stack))
    (ap rows_of c.deref.ensures.value ∙ c.in_ok-groups.ensures.all) in
    let most = sum_at_most (entries_of rows) slot stack in
    let old = count_le_total (tree_of c.args.root.now) slot stack in
    omega (arith, all, most, old, c.requires.fits)
