-- The groups in their new order count what the rows count.
use Rattle.std.proofs.Common.{◌≡◌, ℕ, List, sym, ap, ◌∙◌, subst, arith}
use Rattle.std.specs.Borrow.{Bor}
use Rattle.std.specs.List.Sorted.{IsPermutation}
use Rattle.std.proofs.lemmas.List.Sorted.{IsPermutation-sym, Contains-permutation}
use Rattle.htl_event.specs.declared.slot.Slot.{Slot}
use Rattle.htl_event.specs.Tallies.{plus_count, total_of}
use Rattle.htl_event.proofs.Members.{at_member, each_member}
use Rattle.htl_tree.specs.declared.row.Row.{Row}
use Rattle.htl_tree.specs.Trees.{count_at}
use Rattle.htl_tree.specs.Nodes.{tree_of}
use Rattle.htl_tree.specs.Rows.{entries_of, sum_at, AreShort, IsGroup}
use Rattle.htl_tree.proofs.CountAdded.{match_result}
use Rattle.htl_tree.proofs.TreesAsLists.{count_le_total}
use Rattle.htl_tree.proofs.RowGroups.{rows_of, sum-permutation, groups-permutation, sum_at_most, short_group}
use Rattle.htl_tree.proofs.building.add_rows_to_root.Given.{Over}
use Rattle.htl_tree.proofs.building.add_rows_to_root.Goals.{After-deref-2}
use Rattle.htl_tree.proofs.building.add_rows_to_root.Goals as goal

-- the rows and their groups in their new order are those that were there
rows_moved : (g : Over) (c : After-deref-2 g) → IsPermutation c.args.rows.now.items c.deref.result.now
rows_moved g c = subst (λ (l : List Row). IsPermutation c.args.rows.now.items l) (sym c.deref.ensures.value) c.sort_rows.ensures

groups_moved : (g : Over) (c : After-deref-2 g) → IsPermutation c.in_ok-groups.groups.items c.deref-2.result.now
groups_moved g c = subst (λ (l : List (Bor (List Row))). IsPermutation c.in_ok-groups.groups.items l)
    (sym c.deref-2.ensures.value) c.sort_unstable_by.ensures.permutation

-- what all groups count is what the rows count
all_counted : (g : Over) (c : After-deref-2 g) (slot : Slot) (stack : List ℕ)
    → sum_at (entries_of (rows_of c.deref-2.result.now)) slot stack ≡ sum_at (entries_of c.args.rows.now.items) slot stack
all_counted g c slot stack =
    groups-permutation c.in_ok-groups.groups.items c.deref-2.result.now (groups_moved g c) slot stack
    ∙ ap (λ (l : List Row). sum_at (entries_of l) slot stack) c.in_ok-groups.ensures.all
    ∙ sum-permutation c.args.rows.now.items c.deref.result.now (rows_moved g c) slot stack

pub add_groups-requires-clause-groups : goal.add_groups-requires-clause-groups
add_groups-requires-clause-groups g c =
    let gs = c.in_ok-groups.groups.items in
    let hs = c.deref-2.result.now in
    each_member (λ (group : Bor (List Row)). IsGroup group.now) hs (λ group there.
    at_member (λ (group : Bor (List Row)). IsGroup group.now) gs group c.in_ok-groups.ensures.groups
    (Contains-permutation hs gs group (IsPermutation-sym gs hs (groups_moved g c)) there))

pub add_groups-requires-clause-rows : goal.add_groups-requires-clause-rows
add_groups-requires-clause-rows g c =
    let gs = c.in_ok-groups.groups.items in
    let hs = c.deref-2.result.now in
    each_member (λ (group : Bor (List Row)). AreShort group.now) hs
    (short_group c.args.rows.now.items c.deref.result.now gs hs c.requires.rows.each (rows_moved g c)
    c.in_ok-groups.ensures.all (groups_moved g c))

pub add_groups-requires-clause-fits : goal.add_groups-requires-clause-fits
add_groups-requires-clause-fits g c slot stack =
    let all = ap total_of (all_counted g c slot stack) in
    let most = sum_at_most (entries_of c.args.rows.now.items) slot stack in
    let old = count_le_total (tree_of c.args.root.now) slot stack in
    omega (arith, all, most, old, c.requires.rows.counted, c.requires.fits)

pub returns : goal.returns
returns g c =
    match_result c.add_groups.result c.add_groups.ensures
    (λ x added. (
      added.0,
      λ slot stack. added.1 slot stack
          ∙ ap (plus_count (count_at (tree_of c.args.root.now) slot stack)) (all_counted g (goal.at.returns g c).After-deref-2 slot stack),
    ))
    (λ x kept. kept)
