-- What is taken out inside the node is taken out at its frames and the path from there on.
use Rattle.std.proofs.Common.{rules, ◌≡◌, ◌∙◌, ◌-◌, length, take, reverse, ap, subst, arith}
use Rattle.htl_event.specs.declared.slot.Slot.{Slot}
use Rattle.htl_event.specs.Tallies.{IsPositive}
use Rattle.htl_tree.specs.Nodes.{frames, tally, top, inside, at_child}
use Rattle.htl_tree.specs.Rows.{slot_sum}
use Rattle.htl_tree.specs.Removed.{IsAtMost}
use Rattle.htl_tree.proofs.Positions.{frames_rolled, counts_rolled, filters_rolled, tops_rolled, children_rolled}
use Rattle.htl_tree.proofs.Tops.{children_sorted, found_top, set_top, no_top}
use Rattle.htl_tree.proofs.CountAdded.{normal_here, normal_inside}
use Rattle.htl_tree.proofs.Entered.{path_ends, path_goes_on, IsOnward, onward, entered_tally}
use Rattle.htl_tree.proofs.FilterBits.{not_zero}
use Rattle.htl_tree.proofs.RowsRemoved.{removed_here, removed_below, removed_child, dropped, nothing_top, normal_top}
use Rattle.htl_tree.proofs.RowsRemoved.{less_before, on_way}
use Rattle.htl_tree.proofs.node.Node.+remove_rows.Goals as goal

pub slice_bounds-stack-count : goal.slice_bounds-stack-count
slice_bounds-stack-count g t c =
    let all : c.len.result ≡ length (frames c.args.self.now) = search rules in
    let way = on_way c.args.self.now c.requires.normal c.args.stack.now c.args.rows.now c.requires.some c.requires.positive
    c.requires.counted in
    let within = way.within in
    omega (arith, within, all)

pub remove_from_counts-requires-clause-sorted : goal.remove_from_counts-requires-clause-sorted
remove_from_counts-requires-clause-sorted g t c =
    let n = c.args.self.now in
    let h = normal_here (inside n) (normal_inside (frames n) n c.requires.normal) in
    h.slots

pub remove_from_counts-requires-clause-counted : goal.remove_from_counts-requires-clause-counted
remove_from_counts-requires-clause-counted g t c slot =
    let n = c.args.self.now in
    let stack = c.args.stack.now in
    let all : c.len.result ≡ length (frames c.args.self.now) = search rules in
    let way = on_way c.args.self.now c.requires.normal c.args.stack.now c.args.rows.now c.requires.some c.requires.positive
    c.requires.counted in
    let path = path_ends stack (take (length stack - c.len.result) stack) (frames n) (way.rest c.len.result all)
    c.in-None.ensures.cases in
    subst (λ k. IsAtMost (slot_sum slot c.args.rows.now) k) (entered_tally (top n) n way.kept (reverse stack) _ path slot)
    (c.requires.counted slot)

pub find_frame-requires : goal.find_frame-requires
find_frame-requires g t c =
    let n = c.args.self.now in
    rw c.deref.ensures.value (children_sorted n (normal_inside (frames n) n c.requires.normal))

pub remove_rows-requires : goal.remove_rows-requires
remove_rows-requires g t c κs within =
    let n = c.args.self.now in
    let rows = c.args.rows.now in
    let stack = c.args.stack.now in
    let d = c.index_mut.result.now in
    let rest = c.in-Some.rest.now in
    let all : c.len.result ≡ length (frames c.args.self.now) = search rules in
    let way = on_way c.args.self.now c.requires.normal c.args.stack.now c.args.rows.now c.requires.some c.requires.positive
    c.requires.counted in
    let path = path_goes_on stack (take (length stack - c.len.result) stack) rest (frames n) _ (way.rest c.len.result all)
    c.in-Some.ensures.cases.0 in
    let child : IsOnward (top n) stack rest (top d.1) = onward (top n) n way.kept stack rest _ path (top d.1)
    (found_top n _ c.deref.ensures.value _ _ c.in-Ok.ensures.found d (search rules)) in
    let counted : (slot : Slot) → IsAtMost (slot_sum slot rows) (tally (reverse rest) slot (top d.1)) =
    λ slot. subst (λ k. IsAtMost (slot_sum slot rows) k) (child.counts slot) (c.requires.counted slot) in
    search rules

pub returns-in-None : goal.returns-in-None
returns-in-None g t c =
    let n = c.args.self.now in
    let rows = c.args.rows.now in
    let stack = c.args.stack.now in
    let all : c.len.result ≡ length (frames c.args.self.now) = search rules in
    let way = on_way c.args.self.now c.requires.normal c.args.stack.now c.args.rows.now c.requires.some c.requires.positive
    c.requires.counted in
    let path = path_ends stack (take (length stack - c.len.result) stack) (frames n) (way.rest c.len.result all)
    c.in-None.ensures.cases in
    less_before rows n _ (frames_rolled _) (reverse stack) _ path
    (removed_here (inside n) (inside _) rows (normal_inside (frames n) n c.requires.normal) (filters_rolled _) (tops_rolled _)
    (rw (counts_rolled _) c.remove_from_counts.ensures.lost) (rw (counts_rolled _) c.remove_from_counts.ensures.positive))

pub returns-then-is_empty : goal.returns-then-is_empty
returns-then-is_empty g t c =
    let n = c.args.self.now in
    let rows = c.args.rows.now in
    let stack = c.args.stack.now in
    let d = c.index_mut.result.now in
    let rest = c.in-Some.rest.now in
    let new = c.remove_rows.new.self in
    let same = c.deref.ensures.value in
    let place = c.in-Ok.ensures.found in
    let all : c.len.result ≡ length (frames c.args.self.now) = search rules in
    let way = on_way c.args.self.now c.requires.normal c.args.stack.now c.args.rows.now c.requires.some c.requires.positive
    c.requires.counted in
    let path = path_goes_on stack (take (length stack - c.len.result) stack) rest (frames n) _ (way.rest c.len.result all)
    c.in-Some.ensures.cases.0 in
    less_before rows n _ (frames_rolled _ ∙ frames_rolled _) (reverse stack) _ path
    (removed_child (inside n) (inside _) rows (normal_inside (frames n) n c.requires.normal) (filters_rolled _ ∙ filters_rolled _)
    (counts_rolled _ ∙ counts_rolled _) _ (top d.1) (top new) (found_top n _ same _ _ place d (search rules)) (reverse rest)
    c.remove_rows.ensures.counts
    (dropped n _ _ _ (top new) (set_top n _ same _ _ place d (search rules) _ new (children_rolled _))
    (children_rolled _ ∙ c.remove_child.ensures))
    (nothing_top new (c.is_empty.ensures.empty c.if-is_empty.true)))

pub returns-else-is_empty : goal.returns-else-is_empty
returns-else-is_empty g t c =
    let n = c.args.self.now in
    let rows = c.args.rows.now in
    let stack = c.args.stack.now in
    let d = c.index_mut.result.now in
    let rest = c.in-Some.rest.now in
    let new = c.remove_rows.new.self in
    let same = c.deref.ensures.value in
    let place = c.in-Ok.ensures.found in
    let all : c.len.result ≡ length (frames c.args.self.now) = search rules in
    let way = on_way c.args.self.now c.requires.normal c.args.stack.now c.args.rows.now c.requires.some c.requires.positive
    c.requires.counted in
    let path = path_goes_on stack (take (length stack - c.len.result) stack) rest (frames n) _ (way.rest c.len.result all)
    c.in-Some.ensures.cases.0 in
    let left = normal_top new c.remove_rows.ensures.normal (c.is_empty.ensures.some c.if-is_empty.false) in
    less_before rows n _ (frames_rolled _) (reverse stack) _ path
    (removed_below (inside n) (inside _) rows (normal_inside (frames n) n c.requires.normal) (filters_rolled _)
    (counts_rolled _) _ (top d.1) (top new) (found_top n _ same _ _ place d (search rules)) (reverse rest)
    c.remove_rows.ensures.counts
    (set_top n _ same _ _ place d (search rules) _ new (children_rolled _)) left.0 left.1)

pub returns-in_default : goal.returns-in_default
returns-in_default g t c =
    let n = c.args.self.now in
    let stack = c.args.stack.now in
    let rest = c.in-Some.rest.now in
    let all : c.len.result ≡ length (frames c.args.self.now) = search rules in
    let way = on_way c.args.self.now c.requires.normal c.args.stack.now c.args.rows.now c.requires.some c.requires.positive
    c.requires.counted in
    let path = path_goes_on stack (take (length stack - c.len.result) stack) rest (frames n) _ (way.rest c.len.result all)
    c.in-Some.ensures.cases.0 in
    absurd (not_zero (subst IsPositive (entered_tally (top n) n way.kept (reverse stack) _ path way.slot
    ∙ ap (at_child (λ k. tally (reverse rest) way.slot k))
    (no_top n _ c.deref.ensures.value _ _ c.in_default.ensures.absent)) way.counted))
