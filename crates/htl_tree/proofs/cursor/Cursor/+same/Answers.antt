-- Positions that count the same have the same counts, and count the same one frame further in.
use Rattle.std.proofs.Common.{rules, ◌≡◌, ℕ, ◌<◌, sym, ◌∙◌, get_or, length}
use Rattle.htl_tree.specs.Nodes.{Position, position_of, IsNormal, counts, children, height}
use Rattle.htl_tree.proofs.Children.{normal_at_index, lower_at_index}
use Rattle.htl_tree.proofs.Canonical.{SameChild, canonical_counts, canonical_children, same_from, same_length, same_ends, same_at_index}
use Rattle.htl_tree.proofs.Canonical.{same_from_indexes}
use Rattle.htl_tree.proofs.cursor.Cursor.+same.Goals as goal
use Rattle.htl_tree.proofs.cursor.Cursor.+same.Goals.{then-x-y-via-then-x-y, then-x-y-via-else-x-y+then-not-same}
use Rattle.htl_tree.proofs.cursor.Cursor.+same.Goals.{then-not-same_counts-via-then-not-same_counts}
use Rattle.htl_tree.proofs.cursor.Cursor.+same.Goals.{then-not-same_counts-via-else-not-same_counts+then-number_of_children}

pub same-requires : goal.same-requires
same-requires g t c κs within =
    let n : Position g.row.A.Denot = position_of c.args.self.now in
    let m : Position g.row.A.Denot = position_of c.args.other.now in
    let x : ℕ × Position g.row.A.Denot = (c.child_at-x.result.0, position_of c.child_at-x.result.1) in
    let y : ℕ × Position g.row.A.Denot = (c.child_at-y.result.0, position_of c.child_at-y.result.1) in
    let normal_x : IsNormal x.1 = normal_at_index n c.requires.left c.loop-i.i x (search rules) c.child_at-x.ensures in
    let normal_y : IsNormal y.1 = normal_at_index m c.requires.right c.loop-i.i y (search rules) c.child_at-y.ensures in
    let lower : height x.1 < height n = lower_at_index n c.loop-i.i x (search rules) c.child_at-x.ensures in
    search rules

pub returns-then-not-same_counts : goal.returns-then-not-same_counts
returns-then-not-same_counts g t c = (
  λ never. absurd (cc),
  λ same.
      let a : Position g.row.A.Denot = position_of c.args.self.now in
      let b : Position g.row.A.Denot = position_of c.args.other.now in
      let o : counts a ≡ counts b = canonical_counts a b c.requires.left c.requires.right same in
      let k : length (children a) ≡ length (children b) = same_length (children a) (children b)
      (canonical_children a b c.requires.left c.requires.right same) in
      elim c.then-not-same_counts.branch [
        | then-not-same_counts-via-then-not-same_counts w ↦ let yes =
            c.same_counts.ensures.1 (c.counts.ensures ∙ o ∙ sym c.counts-2.ensures) in let no = w.if-not-same_counts.true in cc
        | then-not-same_counts-via-else-not-same_counts+then-number_of_children w ↦ absurd (w.if-number_of_children.true (search (rules, k)))
      ],
)

pub returns-then-x-y : goal.returns-then-x-y
returns-then-x-y g t c = (
  λ never. absurd (cc),
  λ same.
      let a : Position g.row.A.Denot = position_of c.args.self.now in
      let b : Position g.row.A.Denot = position_of c.args.other.now in
      let x : ℕ × Position g.row.A.Denot = (c.child_at-x.result.0, position_of c.child_at-x.result.1) in
      let y : ℕ × Position g.row.A.Denot = (c.child_at-y.result.0, position_of c.child_at-y.result.1) in
      let pair : SameChild (get_or (children a) c.loop-i.i x) (get_or (children b) c.loop-i.i y) =
      same_at_index (children a) (children b) (canonical_children a b c.requires.left c.requires.right same) c.loop-i.i x y (search rules) in
      let alike : SameChild x y = same_ends (get_or (children a) c.loop-i.i x) (get_or (children b) c.loop-i.i y) x y
      c.child_at-x.ensures c.child_at-y.ensures pair in
      elim c.then-x-y.branch [
        | then-x-y-via-then-x-y w ↦ absurd (w.if-x-y.true alike.0)
        | then-x-y-via-else-x-y+then-not-same w ↦ let yes = w.same.ensures.1 alike.1 in let no = w.if-not-same.true in cc
      ],
)

pub returns : goal.returns
returns g t c =
    let a : Position g.row.A.Denot = position_of c.args.self.now in
    let b : Position g.row.A.Denot = position_of c.args.other.now in
    let o : counts a ≡ counts b = search rules in
    let n : length (children a) ≡ length (children b) = search rules in
    (λ yes. same_from a b o (same_from_indexes (children a) (children b) n (λ i d e lt. c.loop-i.invariant i d e (search rules))), λ same. search rules)
