-- A node whose counts and children are copied is a copy.
use Rattle.std.proofs.Common.{rules, ◌≡◌, ℕ, ◌+◌, ◌-◌, ◌<◌, ◌≤◌, ◌++◌, List, [], length, append-nil}
use Rattle.std.proofs.Common.{sym, ap, ◌∙◌, subst, arith}
use Rattle.htl_sorted.specs.Made.{Made}
use Rattle.htl_tree.specs.declared.cursor.Cursor.{Cursor}
use Rattle.htl_tree.specs.declared.node.Node.{Node}
use Rattle.htl_tree.specs.declared.node.Node.TheViews.{roll-Node}
use Rattle.htl_tree.specs.Nodes.{Position, position_of, frames, top, tops, inside, counts, filters, children, height, heights, IsNormal, IsCopy}
use Rattle.htl_tree.proofs.Children.{height_is, normal_at_index, lower_at_index}
use Rattle.htl_tree.proofs.CopiesAndSums.{normal_skip, height_skip, skip_all, copied, copied_along, appends_next, tops_push}
use Rattle.htl_tree.proofs.Positions.{frames_rolled, counts_rolled, filters_rolled, tops_rolled}
use Rattle.htl_tree.proofs.+copying.Goals as goal

pub cursor::Cursor::copy-copy_children-requires : goal.cursor::Cursor::copy-copy_children-requires
cursor::Cursor::copy-copy_children-requires g t c κs within =
    let all : Cursor g.row.A.Denot = c.args.self.now in
    let i : Position g.row.A.Denot = position_of c.skip-inside.result in
    let normal : IsNormal i = normal_skip all (length all.frames.now) i c.skip-inside.ensures c.requires in
    let lower : height i ≤ height (position_of all) = height_skip all (length all.frames.now) i c.skip-inside.ensures in
    let further : height i ≡ heights (children i) + 1 = height_is i in
    search rules

pub cursor::Cursor::copy-returns : goal.cursor::Cursor::copy-returns
cursor::Cursor::copy-returns g t c =
    let fs : List ℕ = c.args.self.now.frames.now in
    let n : Node g.row.A.Denot = c.args.self.now.node.now in
    let m : Node g.row.A.Denot = roll-Node g.row.A.Denot record {
      frames = c.in_ok-from_slice.field-0;
      counts = c.in_ok-from_slice-2.field-0;
      children = c.copy_children.new.into;
      filters = c.filters.result;
    } in
    let i : Position g.row.A.Denot = position_of c.skip-inside.result in
    let is : i ≡ inside n = skip_all c.args.self.now i c.skip-inside.ensures in
    let normal : IsNormal (inside n) = subst (λ s. IsNormal s) is
    (normal_skip c.args.self.now (length fs) i c.skip-inside.ensures c.requires) in
    let same_counts : counts (inside m) ≡ counts (inside n) = counts_rolled _ ∙ c.in_ok-from_slice-2.ensures.items ∙ c.counts.ensures ∙ ap counts is in
    let filtered : filters (inside m) ≡ filters (inside n) = filters_rolled _ ∙ c.filters.ensures ∙ ap filters is in
    let made = c.in_ok-copy_children.ensures in
    let copied_children : children (inside m) ≡ made.0 = tops_rolled _ ∙ made.1 ∙ ap (λ l. tops l ++ made.0) c.in_ok-children.ensures.items in
    let inner : IsCopy (inside n) (inside m) = copied (inside n) (inside m) normal same_counts filtered
    (subst (λ l. Made (λ k c. IsCopy k c) (children (inside n)) l) (sym copied_children)
    (subst (λ (s : Position g.row.A.Denot). Made (λ k c. IsCopy k c) (children s) made.0) is made.2)) in
    let same : frames m ≡ fs = frames_rolled _ ∙ c.in_ok-from_slice.ensures.items in
    subst (λ l. IsCopy (fs, n) (l, m)) (sym same) (copied_along fs n m c.requires inner)

pub sums::copy_children-loop-index-init : goal.sums::copy_children-loop-index-init
sums::copy_children-loop-index-init g t c =
    let none : c.args.start - c.args.start ≡ 0 = omega arith in
    rw none ([], sym (append-nil _), tt)

pub sums::copy_children-copy-requires : goal.sums::copy_children-copy-requires
sums::copy_children-copy-requires g t c κs within =
    let n : Position g.row.A.Denot = position_of c.args.from.now in
    let d : ℕ × Position g.row.A.Denot = (c.child_at-frame.result.0, position_of c.child_at-frame.result.1) in
    let lt : c.loop-index.index < length (children n) = search rules in
    let normal : IsNormal d.1 = normal_at_index n c.requires c.loop-index.index d lt c.child_at-frame.ensures in
    let lower : height d.1 < height n = lower_at_index n c.loop-index.index d lt c.child_at-frame.ensures in
    let all : height n ≡ heights (children n) + 1 = height_is n in
    search rules

pub sums::copy_children-loop-index-preserved : goal.sums::copy_children-loop-index-preserved
sums::copy_children-loop-index-preserved g t c =
    let n : Position g.row.A.Denot = position_of c.args.from.now in
    let d : ℕ × Position g.row.A.Denot = (c.child_at-frame.result.0, position_of c.child_at-frame.result.1) in
    let lt : c.loop-index.index < length (children n) = search rules in
    let from : c.args.start ≤ c.loop-index.index = omega arith in
    appends_next (children n) (tops c.args.into.now.items) (tops c.loop-index.into.items) (tops c.push.new.self.items) c.args.start
    c.loop-index.index d (top c.in_ok-copy.field-0) from c.loop-index.invariant lt c.child_at-frame.ensures c.in_ok-copy.ensures
    (tops_push c.loop-index.into.items c.push.new.self.items d.0 c.in_ok-copy.field-0 c.in_ok-push.ensures.items)
