-- With what one child more counts, the sum so far and the children left still add up to the whole.
use Rattle.std.proofs.Common.{rules, ◌≡◌, ◌+◌, ◌<◌, ◌^◌, [], drop, false, sym, ap, ◌∙◌, subst, arith}
use Rattle.std.specs.Int.Bits.{bit_and}
use Rattle.htl_event.specs.SlotOrder.{slot_cmp}
use Rattle.htl_sorted.specs.Entries.{IsSorted}
use Rattle.htl_event.specs.declared.slot.Count.{Count}
use Rattle.htl_event.specs.Tallies.{plus_count, total_of}
use Rattle.htl_tree.specs.Nodes.{frames, filters_at, inside, children, count_in, rows, height, sum_under, IsNormal}
use Rattle.htl_tree.proofs.CountAdded.{normal_here, normal_inside}
use Rattle.htl_tree.proofs.FiltersOfRows.{rows_have_filters, no_filter_no_sum}
use Rattle.htl_tree.proofs.Children.{IsChildAt, child_at, no_child_at, child_normal, child_height, inside_height}
use Rattle.htl_tree.proofs.CopiesAndSums.{zero_right}
use Rattle.htl_tree.proofs.SumsFromTally.{plus_assoc}
use Rattle.htl_tree.proofs.Under.{child_sum, sum_from_child, child_room, sum_node}
use Rattle.htl_tree.proofs.node.Node.+sum.Goals as goal

pub returns-then-not-may_count : goal.returns-then-not-may_count
returns-then-not-may_count g t c =
    let n = c.args.self.now in
    let missing : c.may_count.result ≡ false = c.if-not-may_count.true in
    sym (no_filter_no_sum (filters_at n) c.args.slot [] (rows (inside n)) (rows_have_filters (inside n) c.requires.normal)
    (λ there. c.may_count.ensures missing (ap (bit_and (filters_at n)) c.filter_of.ensures ∙ there ∙ sym c.filter_of.ensures)))

pub count_in-sum-requires : goal.count_in-sum-requires
count_in-sum-requires g t c =
    let here = normal_here (inside c.args.self.now) c.requires.normal in
    subst (λ es. IsSorted slot_cmp es) (sym c.deref.ensures.value) here.slots

pub loop-child-init : goal.loop-child-init
loop-child-init g t c =
    let n = c.args.self.now in
    let s = c.args.slot in
    ap (λ d. plus_count d (child_sum s (children (inside n)))) (c.count_in-sum.ensures ∙ ap (λ es. count_in es s) c.deref.ensures.value)
    ∙ sym (sum_node s (inside n) c.requires.normal)

pub sum-below-requires : goal.sum-below-requires
sum-below-requires g t c κs within =
    let n = c.args.self.now in
    let d = c.loop-child-item.result in
    let at : IsChildAt n c.loop-child.child-index d =
    child_at n _ c.deref-child-items.ensures.value _ d c.loop-child-test.true c.loop-child-item.is in
    let normal : IsNormal (inside d.1) = normal_inside (frames d.1) d.1 (child_normal at c.requires.normal) in
    let lower : height (inside d.1) < height (inside n) = omega (arith, child_height at, inside_height (frames d.1) d.1) in
    let room = child_room c.args.slot at c.loop-child.sum _ c.loop-child.invariant in
    let fits : total_of (sum_under [] c.args.slot (inside d.1)) < 2 ^ 64 = omega (arith, room, c.requires.fits) in
    search rules

pub sum_of-sum-requires : goal.sum_of-sum-requires
sum_of-sum-requires g t c =
    let n = c.args.self.now in
    let d = c.loop-child-item.result in
    let at : IsChildAt n c.loop-child.child-index d =
    child_at n _ c.deref-child-items.ensures.value _ d c.loop-child-test.true c.loop-child-item.is in
    let room = child_room c.args.slot at c.loop-child.sum _ c.loop-child.invariant in
    let fits : total_of (plus_count c.loop-child.sum (sum_under [] c.args.slot (inside d.1))) < 2 ^ 64 =
    omega (arith, room, c.requires.fits) in
    rw c.sum-below.ensures fits

pub loop-child-preserved : goal.loop-child-preserved
loop-child-preserved g t c =
    let n = c.args.self.now in
    let i = c.loop-child.child-index in
    let d = c.loop-child-item.result in
    let s = c.args.slot in
    let at : IsChildAt n i d = child_at n _ c.deref-child-items.ensures.value i d c.loop-child-test.true c.loop-child-item.is in
    let rest : Count = child_sum s (drop (i + 1) (children (inside n))) in
    ap (λ j. plus_count j rest) (c.sum_of-sum.ensures ∙ ap (plus_count c.loop-child.sum) c.sum-below.ensures)
    ∙ plus_assoc c.loop-child.sum (sum_under [] s (inside d.1)) rest
    ∙ ap (plus_count c.loop-child.sum) (sym (sum_from_child s at)) ∙ c.loop-child.invariant

pub returns : goal.returns
returns g t c =
    let none = no_child_at c.args.self.now _ c.deref-child-items.ensures.value _ c.loop-child-test.false in
    zero_right c.loop-child.sum ∙ ap (λ ks. plus_count c.loop-child.sum (child_sum c.args.slot ks)) (sym none) ∙ c.loop-child.invariant
