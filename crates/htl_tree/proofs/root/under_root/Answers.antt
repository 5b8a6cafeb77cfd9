-- The root finds what the tree counts under a path.
use Rattle.std.proofs.Common.{◌≡◌, ◌<◌, ◌≤◌, ◌^◌, Some, sym, ap, ◌∙◌, subst, arith}
use Rattle.std.specs.List.{starts_with}
use Rattle.std.proofs.Common.{nat_eq}
use Rattle.htl_event.specs.Stacks.{outer}
use Rattle.htl_event.specs.Tallies.{total_of}
use Rattle.htl_tree.specs.Trees.{count_under, total_count}
use Rattle.htl_tree.specs.Nodes.{top, tree_of, sum_under, IsNormal, IsNormalRoot}
use Rattle.htl_tree.proofs.Under.{under_tree, sum_where_le_total}
use Rattle.htl_tree.proofs.root.under_root.Goals as goal

pub under-requires-clause-normal : goal.under-requires-clause-normal
under-requires-clause-normal g c = let h : IsNormalRoot (Some c.in-Some.root) =
    subst (λ r. IsNormalRoot r) c.in-Some.is c.requires.normal in subst (λ k. IsNormal k) (sym c.top.ensures) h.normal

pub under-requires-clause-fits : goal.under-requires-clause-fits
under-requires-clause-fits g c =
    let n = c.in-Some.root in
    let is = under_tree c.args.slot (top n) c.args.path.now in
    let most : total_of (count_under (tree_of (Some n)) c.args.path.now c.args.slot) ≤ total_count (tree_of (Some n)) =
    sum_where_le_total c.args.slot (λ stack. starts_with nat_eq (outer stack) c.args.path.now) (tree_of (Some n)) in
    let all : total_count (tree_of c.args.root.now) ≡ total_count (tree_of (Some n)) = ap (λ r. total_count (tree_of r)) c.in-Some.is in
    let fits : total_of (count_under (tree_of (Some n)) c.args.path.now c.args.slot) < 2 ^ 64 =
    omega (arith, most, all, c.requires.fits) in
    subst (λ d. total_of d < 2 ^ 64) (is ∙ ap (λ k. sum_under c.args.path.now c.args.slot k) (sym c.top.ensures)) fits

pub returns-in-Some : goal.returns-in-Some
returns-in-Some g c = c.under.ensures ∙ ap (λ k. sum_under c.args.path.now c.args.slot k) c.top.ensures
    ∙ sym (under_tree c.args.slot (top c.in-Some.root) c.args.path.now)
    ∙ ap (λ r. count_under (tree_of r) c.args.path.now c.args.slot) (sym c.in-Some.is)
