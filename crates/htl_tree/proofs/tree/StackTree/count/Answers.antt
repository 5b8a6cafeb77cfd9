-- With the rows of the events, the tree counts these events too.
use Rattle.std.proofs.Common.{◌≡◌, ◌∙◌, ◌+◌, sym, ap, subst, arith}
use Rattle.std.specs.List.{flat_map}
use Rattle.htl_event.specs.Tallies.{plus_count, tally}
use Rattle.htl_tree.specs.Trees.{count_at, total_count, HasTally}
use Rattle.htl_tree.specs.Nodes.{tree_of}
use Rattle.htl_tree.specs.Rows.{entries_of, WithRows}
use Rattle.htl_tree.proofs.Roots.{root_is_tree}
use Rattle.htl_tree.proofs.SumsFromTally.{total_with}
use Rattle.htl_tree.proofs.Events.{tally_with}
use Rattle.htl_tree.proofs.tree.StackTree.count.Given.{Over}
use Rattle.htl_tree.proofs.tree.StackTree.count.Goals.{In_ok-add_rows_to_root}
use Rattle.htl_tree.proofs.tree.StackTree.count.Goals as goal

added : (g : Over) (c : In_ok-add_rows_to_root g)
    → WithRows (tree_of c.add_rows_to_root.new.root) (tree_of c.self.inside.root) c.in_ok-of.field-0.rows.items
added g c = subst (λ v. WithRows (tree_of c.add_rows_to_root.new.root) (tree_of c.self.inside.root) v.items)
    c.into_rows-rows.ensures.rows c.in_ok-add_rows_to_root.ensures.1

total : (g : Over) (c : In_ok-add_rows_to_root g) → total_count (tree_of c.add_rows_to_root.new.root)
    ≡ total_count (tree_of c.self.inside.root) + total_count (entries_of c.in_ok-of.field-0.rows.items)
total g c =
    let new = c.add_rows_to_root.new.root in
    let old = c.self.inside.root in
    total_with (tree_of new) (tree_of old) (entries_of c.in_ok-of.field-0.rows.items)
    (root_is_tree new c.in_ok-add_rows_to_root.ensures.0) (root_is_tree old c.self.invariant.normal)
    c.in_ok-of.ensures.rows.each.positive (added g c)

pub invariant_of-self-2 : goal.invariant_of-self-2
invariant_of-self-2 g c =
    let sum = total g (goal.at.invariant_of-self-2 g c).In_ok-add_rows_to_root in
    let all : total_count (tree_of c.self.inside.root) ≡ total_count c.args.self.now = ap total_count c.self.view_is in
    let is = c.self.invariant.counted in
    let rows = c.in_ok-of.ensures.rows.counted in
    let its = c.into_rows-rows.ensures.total in
    record {
      normal = c.in_ok-add_rows_to_root.ensures.0;
      counted = omega (arith, sum, is, rows, its);
      fits = omega (arith, is, all, its, c.in_ok-of.ensures.total, c.requires);
    }

pub returns-clause-counts : goal.returns-clause-counts
returns-clause-counts g c slot stack =
    let events = flat_map g.R.EventList.events_of c.args.lists.now in
    added g (goal.at.returns-clause-counts g c).In_ok-add_rows_to_root slot stack
    ∙ ap (plus_count (count_at (tree_of c.self.inside.root) slot stack)) (c.in_ok-of.ensures.tally slot stack)
    ∙ ap (λ t. plus_count (count_at t slot stack) (tally events slot stack)) c.self.view_is

pub returns-clause-tally : goal.returns-clause-tally
returns-clause-tally g c events tallied =
    tally_with (tree_of c.add_rows_to_root.new.root) (tree_of c.self.inside.root) (entries_of c.in_ok-of.field-0.rows.items)
    events (flat_map g.R.EventList.events_of c.args.lists.now) (subst (λ t. HasTally t events) (sym c.self.view_is) tallied)
    c.in_ok-of.ensures.tally (added g (goal.at.returns-clause-tally g c).In_ok-add_rows_to_root)

pub returns-clause-total : goal.returns-clause-total
returns-clause-total g c =
    let sum = total g (goal.at.returns-clause-total g c).In_ok-add_rows_to_root in
    let all : total_count (tree_of c.self.inside.root) ≡ total_count c.args.self.now = ap total_count c.self.view_is in
    let rows = c.in_ok-of.ensures.rows.counted in
    omega (arith, sum, all, rows, c.in_ok-of.ensures.total)
