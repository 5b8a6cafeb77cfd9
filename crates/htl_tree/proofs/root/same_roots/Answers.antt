-- Roots count the same where their trees do; a root with nodes counts something.
use Rattle.std.proofs.Common.{◌↔◌, IsTrue, Some, sym, subst}
use Rattle.htl_tree.specs.declared.node.Node.{Node}
use Rattle.htl_tree.specs.Nodes.{position_of, top, tally_of, IsNormalRoot, IsSameTally}
use Rattle.htl_tree.proofs.Roots.{same_trees, same_nodes, counts_something}
use Rattle.htl_tree.proofs.root.same_roots.Goals as goal

pub returns-in-Some-Some : goal.returns-in-Some-Some
returns-in-Some-Some g c =
    let n : Node g.row.A.Denot = c.in-Some-Some.left in
    let m : Node g.row.A.Denot = c.in-Some-Some.right in
    let left : IsNormalRoot (Some n) = subst (λ r. IsNormalRoot r) c.in-Some-Some.is-0 c.requires.left in
    let right : IsNormalRoot (Some m) = subst (λ r. IsNormalRoot r) c.in-Some-Some.is-1 c.requires.right in
    let same : IsTrue c.same.result ↔ IsSameTally (tally_of (top n)) (tally_of (top m)) =
    subst (λ s. IsTrue c.same.result ↔ IsSameTally (tally_of s) (tally_of (top m))) c.top.ensures
    (subst (λ s. IsTrue c.same.result ↔ IsSameTally (tally_of (position_of c.top.result)) (tally_of s)) c.top-in-Some-Some.ensures
    c.same.ensures) in
    rw (c.in-Some-Some.is-0, c.in-Some-Some.is-1) (
      λ yes. same_trees (top n) (top m) left.normal right.normal (same.0 yes),
      λ alike. same.1 (same_nodes (top n) (top m) left.normal right.normal alike),
    )

pub returns-in-None-Some : goal.returns-in-None-Some
returns-in-None-Some g c =
    let m : Node g.row.A.Denot = c.in-None-Some.field-0-1 in
    let right : IsNormalRoot (Some m) = subst (λ r. IsNormalRoot r) c.in-None-Some.is-1 c.requires.right in
    rw (c.in-None-Some.is-0, c.in-None-Some.is-1) (
      λ never. absurd (cc),
      λ same. absurd (counts_something (top m) right (λ slot stack. sym (same slot stack))),
    )

pub returns-in-Some-None : goal.returns-in-Some-None
returns-in-Some-None g c =
    let n : Node g.row.A.Denot = c.in-Some-None.field-0-0 in
    let left : IsNormalRoot (Some n) = subst (λ r. IsNormalRoot r) c.in-Some-None.is-0 c.requires.left in
    rw (c.in-Some-None.is-0, c.in-Some-None.is-1) (
      λ never. absurd (cc),
      λ same. absurd (counts_something (top n) left (λ slot stack. same slot stack)),
    )
