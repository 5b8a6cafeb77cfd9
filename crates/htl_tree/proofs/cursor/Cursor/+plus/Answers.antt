-- A child more is a sum of two or a copy of one.
use Rattle.std.proofs.Common.{rules, ◌≡◌, ℕ, ◌+◌, ◌<◌, ◌≤◌, ◌^◌, [], length, take, Some, sym, ap, ◌∙◌, subst, arith}
use Rattle.std.specs.Ordering.{nat_cmp}
use Rattle.std.specs.FinMap.{nat_cmp-IsAntisymmetric}
use Rattle.std.specs.FinMap.Entries.{find}
use Rattle.std.specs.Int.Bits.{bit_or}
use Rattle.std.specs.declared.cmp.Ordering.TheVariants.{Less, Equal, Greater}
use Rattle.htl_event.specs.Tallies.{plus_count, total_of}
use Rattle.htl_event.specs.SlotOrder.{slot_cmp}
use Rattle.htl_sorted.specs.Entries.{IsSorted, joined_at}
use Rattle.htl_sorted.specs.Made.{Made}
use Rattle.htl_sorted.proofs.SideBySide.{join}
use Rattle.htl_tree.specs.declared.cursor.Cursor.{Cursor}
use Rattle.htl_tree.specs.declared.node.Node.{Node}
use Rattle.htl_tree.specs.declared.node.Node.TheViews.{roll-Node}
use Rattle.htl_tree.specs.Nodes.{Position, position_of, frames, top, tops, inside, counts, filters, children, count_in, height, IsNormal, IsSum, FitsSum}
use Rattle.htl_tree.proofs.CountAdded.{normal_here, normal_child}
use Rattle.htl_tree.proofs.Children.{found_at_index, normal_at_index, lower_at_index}
use Rattle.htl_tree.proofs.CopiesAndSums.{SumOf, sum_less, sum_greater, sum_equal, sums_end, fits_below, summed, tops_push}
use Rattle.htl_tree.proofs.CopiesAndSums.{normal_skip, height_skip, fits_skip, summed_skip}
use Rattle.htl_tree.proofs.Positions.{frames_rolled, counts_rolled, filters_rolled, tops_rolled}
use Rattle.htl_tree.proofs.cursor.Cursor.+plus.Goals as goal
use Rattle.htl_tree.proofs.cursor.Cursor.+plus.Goals.{then-loop-i-test+else-j-number_of_children, else-loop-i-test}

pub plus_counts-requires-clause-left : goal.plus_counts-requires-clause-left
plus_counts-requires-clause-left g t c =
    let left : Position g.row.A.Denot = position_of c.skip-left.result in
    let normal : IsNormal left = normal_skip c.args.self.now c.common_len-shared.result left c.skip-left.ensures c.requires.left in
    subst (λ es. IsSorted slot_cmp es) (sym c.counts.ensures) (normal_here left normal).slots

pub plus_counts-requires-clause-right : goal.plus_counts-requires-clause-right
plus_counts-requires-clause-right g t c =
    let right : Position g.row.A.Denot = position_of c.skip-right.result in
    let normal : IsNormal right = normal_skip c.args.other.now c.common_len-shared.result right c.skip-right.ensures c.requires.right in
    subst (λ es. IsSorted slot_cmp es) (sym c.counts-2.ensures) (normal_here right normal).slots

pub plus_counts-requires-clause-fits : goal.plus_counts-requires-clause-fits
plus_counts-requires-clause-fits g t c slot =
    let left : Position g.row.A.Denot = position_of c.skip-left.result in
    let right : Position g.row.A.Denot = position_of c.skip-right.result in
    let fits : FitsSum left right = fits_skip c.args.self.now c.args.other.now c.common_len-shared.result left right
    c.common_len-shared.ensures.shared c.skip-left.ensures c.skip-right.ensures c.requires.fits in
    subst (λ es. total_of (count_in c.counts.result.now slot) + total_of (count_in es slot) < 2 ^ 64) (sym c.counts-2.ensures)
    (subst (λ es. total_of (count_in es slot) + total_of (count_in (counts right) slot) < 2 ^ 64) (sym c.counts.ensures) (fits [] slot))

pub copy-requires : goal.copy-requires
copy-requires g t c =
    let left : Position g.row.A.Denot = position_of c.skip-left.result in
    let x : ℕ × Position g.row.A.Denot = (c.child_at-x.result.0, position_of c.child_at-x.result.1) in
    let normal : IsNormal left = normal_skip c.args.self.now c.common_len-shared.result left c.skip-left.ensures c.requires.left in
    normal_at_index left normal c.loop-i.i x (search rules) c.child_at-x.ensures

pub copy-requires-in-Greater : goal.copy-requires-in-Greater
copy-requires-in-Greater g t c =
    let right : Position g.row.A.Denot = position_of c.skip-right.result in
    let y : ℕ × Position g.row.A.Denot = (c.child_at-y.result.0, position_of c.child_at-y.result.1) in
    let normal : IsNormal right = normal_skip c.args.other.now c.common_len-shared.result right c.skip-right.ensures c.requires.right in
    normal_at_index right normal c.loop-i.j y (search rules) c.child_at-y.ensures

pub loop-i-preserved-in-Less : goal.loop-i-preserved-in-Less
loop-i-preserved-in-Less g t c =
    let left : Position g.row.A.Denot = position_of c.skip-left.result in
    let right : Position g.row.A.Denot = position_of c.skip-right.result in
    let x : ℕ × Position g.row.A.Denot = (c.child_at-x.result.0, position_of c.child_at-x.result.1) in
    let y : ℕ × Position g.row.A.Denot = (c.child_at-y.result.0, position_of c.child_at-y.result.1) in
    let less : nat_cmp x.0 y.0 ≡ Less = search rules in
    sum_less (children left) (children right) c.loop-i.i c.loop-i.j (tops c.loop-i.children.items) (tops c.push.new.self.items)
    c.loop-i.invariant x y (search rules) (search rules) c.child_at-x.ensures c.child_at-y.ensures (top c.in_ok-copy-in-Less.field-0)
    less c.in_ok-copy-in-Less.ensures (tops_push _ _ x.0 c.in_ok-copy-in-Less.field-0 c.in_ok-push-in-Less.ensures.items)

pub loop-i-preserved-in-Greater : goal.loop-i-preserved-in-Greater
loop-i-preserved-in-Greater g t c =
    let left : Position g.row.A.Denot = position_of c.skip-left.result in
    let right : Position g.row.A.Denot = position_of c.skip-right.result in
    let x : ℕ × Position g.row.A.Denot = (c.child_at-x.result.0, position_of c.child_at-x.result.1) in
    let y : ℕ × Position g.row.A.Denot = (c.child_at-y.result.0, position_of c.child_at-y.result.1) in
    let greater : nat_cmp x.0 y.0 ≡ Greater = search rules in
    sum_greater (children left) (children right) c.loop-i.i c.loop-i.j (tops c.loop-i.children.items) (tops c.push-in-Greater.new.self.items)
    c.loop-i.invariant x y (search rules) (search rules) c.child_at-x.ensures c.child_at-y.ensures
    (top c.in_ok-copy-in-Greater.field-0) greater c.in_ok-copy-in-Greater.ensures
    (tops_push _ _ y.0 c.in_ok-copy-in-Greater.field-0 c.in_ok-push-in-Greater.ensures.items)

pub plus-requires : goal.plus-requires
plus-requires g t c κs within =
    let a : Cursor g.row.A.Denot = c.args.self.now in
    let b : Cursor g.row.A.Denot = c.args.other.now in
    let k : ℕ = c.common_len-shared.result in
    let left : Position g.row.A.Denot = position_of c.skip-left.result in
    let right : Position g.row.A.Denot = position_of c.skip-right.result in
    let x : ℕ × Position g.row.A.Denot = (c.child_at-x.result.0, position_of c.child_at-x.result.1) in
    let y : ℕ × Position g.row.A.Denot = (c.child_at-y.result.0, position_of c.child_at-y.result.1) in
    let normal_left : IsNormal left = normal_skip a k left c.skip-left.ensures c.requires.left in
    let normal_right : IsNormal right = normal_skip b k right c.skip-right.ensures c.requires.right in
    let all : FitsSum left right = fits_skip a b k left right
    c.common_len-shared.ensures.shared c.skip-left.ensures c.skip-right.ensures c.requires.fits in
    let lt : c.loop-i.i < length (children left) = search rules in
    let lu : c.loop-i.j < length (children right) = search rules in
    let found_x : find nat_cmp x.0 (children left) ≡ Some x.1 = found_at_index left normal_left c.loop-i.i x lt c.child_at-x.ensures in
    let found_y : find nat_cmp y.0 (children right) ≡ Some y.1 = found_at_index right normal_right c.loop-i.j y lu c.child_at-y.ensures in
    let equal : nat_cmp x.0 y.0 ≡ Equal = search rules in
    let same : x.0 ≡ y.0 = nat_cmp-IsAntisymmetric x.0 y.0 equal in
    let normal_x : IsNormal x.1 = normal_child left normal_left x.0 x.1 found_x in
    let normal_y : IsNormal y.1 = normal_child right normal_right y.0 y.1 found_y in
    let fits : FitsSum x.1 y.1 = fits_below left right all x.0 x.1 y.1 found_x (ap (λ f. find nat_cmp f (children right)) same ∙ found_y) in
    let below : height x.1 < height left = lower_at_index left c.loop-i.i x lt c.child_at-x.ensures in
    let there : height left ≤ height (position_of a) = height_skip a k left c.skip-left.ensures in
    let lower : height x.1 < height (position_of a) = omega (arith, below, there) in
    search rules

pub loop-i-preserved : goal.loop-i-preserved
loop-i-preserved g t c =
    let left : Position g.row.A.Denot = position_of c.skip-left.result in
    let right : Position g.row.A.Denot = position_of c.skip-right.result in
    let x : ℕ × Position g.row.A.Denot = (c.child_at-x.result.0, position_of c.child_at-x.result.1) in
    let y : ℕ × Position g.row.A.Denot = (c.child_at-y.result.0, position_of c.child_at-y.result.1) in
    let equal : nat_cmp x.0 y.0 ≡ Equal = search rules in
    sum_equal (children left) (children right) c.loop-i.i c.loop-i.j (tops c.loop-i.children.items) (tops c.push-in-Equal.new.self.items)
    c.loop-i.invariant x y (search rules) (search rules) c.child_at-x.ensures c.child_at-y.ensures (top c.in_ok-plus-in-Equal.field-0)
    equal c.in_ok-plus-in-Equal.ensures (tops_push _ _ x.0 c.in_ok-plus-in-Equal.field-0 c.in_ok-push-in-Equal.ensures.items)

pub copy_children-requires : goal.copy_children-requires
copy_children-requires g t c =
    normal_skip c.args.self.now c.common_len-shared.result (position_of c.skip-left.result) c.skip-left.ensures c.requires.left

pub copy_children-requires-2 : goal.copy_children-requires-2
copy_children-requires-2 g t c =
    normal_skip c.args.other.now c.common_len-shared.result (position_of c.skip-right.result) c.skip-right.ensures c.requires.right

pub returns : goal.returns
returns g t c =
    let a : Cursor g.row.A.Denot = c.args.self.now in
    let b : Cursor g.row.A.Denot = c.args.other.now in
    let k : ℕ = c.common_len-shared.result in
    let left : Position g.row.A.Denot = position_of c.skip-left.result in
    let right : Position g.row.A.Denot = position_of c.skip-right.result in
    let normal_left : IsNormal left = normal_skip a k left c.skip-left.ensures c.requires.left in
    let normal_right : IsNormal right = normal_skip b k right c.skip-right.ensures c.requires.right in
    let m : Node g.row.A.Denot = roll-Node g.row.A.Denot record {
      frames = c.in_ok-frames.frames;
      counts = c.in_ok-counts.counts;
      children = c.copy_children-2.new.into;
      filters = bit_or c.filters.result c.filters-2.result;
    } in
    let one : c.loop-i.i < length (children left) → length (children right) ≤ c.loop-i.j = λ lt. elim c.loop-i-test.branch [
      | then-loop-i-test+else-j-number_of_children w ↦ omega (arith, w.if-j-number_of_children.false, w.number_of_children-in-loop-i-2.ensures)
      | else-loop-i-test w ↦ omega (arith, w.loop-i-test.false, c.number_of_children-in-loop-i.ensures, lt)
    ] in
    let made = sums_end (children left) (children right) c.loop-i.i c.loop-i.j (tops c.loop-i.children.items)
    (tops c.copy_children.new.into.items) (tops c.copy_children-2.new.into.items) c.loop-i.invariant one
    c.in_ok-copy_children.ensures c.in_ok-copy_children-2.ensures in
    let o : counts (inside m) ≡ c.in_ok-counts.counts.items = counts_rolled _ in
    let filtered : filters (inside m) ≡ bit_or (filters left) (filters right) = filters_rolled _
    ∙ (λ i. bit_or (c.filters.ensures i) (c.filters-2.ensures i)) in
    let summed_children : children (inside m) ≡ tops c.copy_children-2.new.into.items = tops_rolled _ in
    let inner : IsSum left right (inside m) = summed left right (inside m) normal_left normal_right
    (subst (λ es. IsSorted slot_cmp es) (sym o) c.in_ok-counts.ensures.sorted) filtered
    (λ s. ap (find slot_cmp s) o ∙ c.in_ok-counts.ensures.values s
    ∙ ap (λ es. joined_at plus_count (find slot_cmp s es) (find slot_cmp s c.counts-2.result.now)) c.counts.ensures
    ∙ ap (λ es. joined_at plus_count (find slot_cmp s (counts left)) (find slot_cmp s es)) c.counts-2.ensures)
    (subst (λ l. Made (λ sides sum. SumOf sides sum) (join nat_cmp (children left) (children right)) l) (sym summed_children) made) in
    let shared : frames m ≡ take k a.frames.now = frames_rolled _ ∙ c.in_ok-frames.ensures.items in
    subst (λ l. IsSum (position_of a) (position_of b) (l, m)) (sym shared)
    (summed_skip a b k left right m c.common_len-shared.ensures.shared c.skip-left.ensures
    c.skip-right.ensures filtered c.requires.left c.requires.right inner)
