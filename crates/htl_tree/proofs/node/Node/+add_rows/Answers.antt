-- What is added inside the node is added at its frames and the path from there on.
use Rattle.std.proofs.Common.{rules, ◌+◌, ◌<◌, ◌^◌, ap, ◌∙◌, subst, reverse, arith}
use Rattle.htl_event.specs.declared.slot.Slot.{Slot}
use Rattle.std.specs.Int.Bits.{bit_or}
use Rattle.htl_event.specs.Tallies.{total_of}
use Rattle.htl_tree.specs.Filters.{HaveFilters}
use Rattle.htl_tree.specs.Nodes.{filters_at, tally, top, tops, inside}
use Rattle.htl_tree.specs.Rows.{slot_sum}
use Rattle.htl_tree.proofs.Positions.{frames_rolled, counts_rolled, filters_rolled, tops_rolled, children_rolled}
use Rattle.htl_tree.proofs.Tops.{children_sorted, found_top, set_top, no_top, insert_top}
use Rattle.htl_tree.proofs.CountAdded.{normal_here, kept_counts, refused}
use Rattle.htl_tree.proofs.FiltersOfPositions.{more_filters}
use Rattle.htl_tree.proofs.Entered.{path_ends, path_goes_on, IsOnward, onward, normal_entered, entered_tally, entered_kept}
use Rattle.htl_tree.proofs.RowsAdded.{some_slot, gained_here, gained_branch, entered_gained, rows_stepped, rows_entered}
use Rattle.htl_tree.proofs.node.Node.+add_rows.Goals as goal

pub add_to_counts-requires-clause-sorted : goal.add_to_counts-requires-clause-sorted
add_to_counts-requires-clause-sorted g t c =
    let n = c.enter.new.self in
    let h = normal_here (inside n) (normal_entered (top c.args.self.now) n c.in_ok-stack.ensures.kept) in
    h.slots

pub add_to_counts-requires-clause-positive : goal.add_to_counts-requires-clause-positive
add_to_counts-requires-clause-positive g t c =
    let n = c.enter.new.self in
    let h = normal_here (inside n) (normal_entered (top c.args.self.now) n c.in_ok-stack.ensures.kept) in
    h.positive

pub add_to_counts-requires-clause-fits : goal.add_to_counts-requires-clause-fits
add_to_counts-requires-clause-fits g t c slot =
    let path = path_ends c.args.stack.now _ _ c.in_ok-stack.ensures.rest c.in-None.ensures.cases in
    subst (λ k. total_of k + total_of (slot_sum slot c.args.rows.now) < 2 ^ 64)
    (entered_tally (top c.args.self.now) c.enter.new.self c.in_ok-stack.ensures.kept _ _ path slot) (c.requires.fits slot)

pub find_frame-requires : goal.find_frame-requires
find_frame-requires g t c =
    let n = c.enter.new.self in
    rw c.deref-in-Some.ensures.value (children_sorted n (normal_entered (top c.args.self.now) n c.in_ok-stack.ensures.kept))

pub add_rows-added-requires : goal.add_rows-added-requires
add_rows-added-requires g t c κs within =
    let n = c.enter.new.self in
    let d = c.index_mut.result.now in
    let rest = c.in-Some.rest.now in
    let path = path_goes_on c.args.stack.now _ rest _ _ c.in_ok-stack.ensures.rest c.in-Some.ensures.cases.0 in
    let child : IsOnward (top c.args.self.now) c.args.stack.now rest (top d.1) = onward (top c.args.self.now) n c.in_ok-stack.ensures.kept
    c.args.stack.now rest _ path (top d.1) (found_top n _ c.deref-in-Some.ensures.value _ _ c.in-Ok.ensures.found d (search rules)) in
    let fits : (slot : Slot) → total_of (tally (reverse rest) slot (top d.1)) + total_of (slot_sum slot c.args.rows.now) < 2 ^ 64 =
    λ slot. subst (λ k. total_of k + total_of (slot_sum slot c.args.rows.now) < 2 ^ 64) (child.counts slot) (c.requires.fits slot) in
    search rules

pub leaf_of_rows-requires-clause-fits : goal.leaf_of_rows-requires-clause-fits
leaf_of_rows-requires-clause-fits g t c slot = let fits = c.requires.fits slot in omega (arith, fits)

pub returns-in_ok-add_to_counts-in-None : goal.returns-in_ok-add_to_counts-in-None
returns-in_ok-add_to_counts-in-None g t c =
    let n = c.enter.new.self in
    let old = top c.args.self.now in
    let rows = c.args.rows.now in
    let kept = c.in_ok-stack.ensures.kept in
    let path = path_ends c.args.stack.now _ _ c.in_ok-stack.ensures.rest c.in-None.ensures.cases in
    entered_gained rows (some_slot rows c.requires.some c.requires.positive) old n _ kept (frames_rolled _ ∙ frames_rolled _) _ _ path
    (gained_here (inside n) (inside _) rows _ _ (normal_entered old n kept) (counts_rolled _ ∙ counts_rolled _)
    (filters_rolled _ ∙ ap (λ k. bit_or k c.filters_of.result) (filters_rolled _)) (tops_rolled _ ∙ tops_rolled _)
    c.in_ok-add_to_counts-in-None.ensures.ok
    (subst (λ l. HaveFilters c.filters_of.result l) (c.deref.ensures.value ∙ counts_rolled _) c.filters_of.ensures))

pub returns-in-Ok : goal.returns-in-Ok
returns-in-Ok g t c =
    let n = c.enter.new.self in
    let old = top c.args.self.now in
    let rows = c.args.rows.now in
    let d = c.index_mut.result.now in
    let kept = c.in_ok-stack.ensures.kept in
    let some = some_slot rows c.requires.some c.requires.positive in
    let same = c.deref-in-Some.ensures.value in
    let place = c.in-Ok.ensures.found in
    let path = path_goes_on c.args.stack.now _ _ _ _ c.in_ok-stack.ensures.rest c.in-Some.ensures.cases.0 in
    let new = c.add_rows-added.new.self in
    rows_entered rows some old n _ kept (frames_rolled _ ∙ frames_rolled _) _ _ path c.add_rows-added.result
    (rows_stepped (inside n) (inside _) (normal_entered old n kept) rows some _ (top d.1) (top new)
    (found_top n _ same _ _ place d (search rules)) (counts_rolled _ ∙ counts_rolled _)
    (more_filters n _ (top new) _ (counts_rolled _ ∙ counts_rolled _)
    (set_top n _ same _ _ place d (search rules) _ new (children_rolled _ ∙ children_rolled _))
    (filters_rolled _ ∙ ap (λ k. bit_or k (filters_at new)) (filters_rolled _)) (normal_entered old n kept))
    (set_top n _ same _ _ place d (search rules) _ new (children_rolled _ ∙ children_rolled _)) (reverse c.in-Some.rest.now)
    c.add_rows-added.result c.add_rows-added.ensures)

pub returns-in_ok-insert_child-in-Err : goal.returns-in_ok-insert_child-in-Err
returns-in_ok-insert_child-in-Err g t c =
    let n = c.enter.new.self in
    let old = top c.args.self.now in
    let rows = c.args.rows.now in
    let kept = c.in_ok-stack.ensures.kept in
    let same = c.deref-in-Some.ensures.value in
    let gap = c.in-Err.ensures.absent in
    let some = some_slot rows c.requires.some c.requires.positive in
    let path = path_goes_on c.args.stack.now _ _ _ _ c.in_ok-stack.ensures.rest c.in-Some.ensures.cases.0 in
    let child = c.in_ok-child-in-Err.child in
    entered_gained rows some old n _ kept (frames_rolled _ ∙ frames_rolled _) _ _ path
    (gained_branch (inside n) (inside _) rows some _ (top child) (counts_rolled _ ∙ counts_rolled _)
    (more_filters n _ (top child) _ (counts_rolled _ ∙ counts_rolled _)
    (insert_top n _ same _ _ gap _ child (children_rolled _ ∙ children_rolled _ ∙ c.in_ok-insert_child-in-Err.ensures.ok))
    (filters_rolled _ ∙ ap (λ k. bit_or k (filters_at child)) (filters_rolled _)) (normal_entered old n kept))
    (insert_top n _ same _ _ gap _ child (children_rolled _ ∙ children_rolled _ ∙ c.in_ok-insert_child-in-Err.ensures.ok))
    (normal_entered old n kept)
    (no_top n _ same _ _ gap) (reverse c.in-Some.rest.now) c.in_ok-child-in-Err.ensures)

pub returns-in_err-insert_child-in-Err : goal.returns-in_err-insert_child-in-Err
returns-in_err-insert_child-in-Err g t c =
    let n = c.enter.new.self in
    let kept = c.in_ok-stack.ensures.kept in
    refused _ _ c.from_residual-in_err-insert_child-in-Err.ensures.0 (entered_kept (top c.args.self.now) n kept _ (frames_rolled _)
    (kept_counts (inside n) (inside _) (normal_entered (top c.args.self.now) n kept) (counts_rolled _) (filters_rolled _)
    (tops_rolled _ ∙ ap tops c.in_err-insert_child-in-Err.ensures.err)))

pub returns-in_err-add_to_counts-in-None : goal.returns-in_err-add_to_counts-in-None
returns-in_err-add_to_counts-in-None g t c =
    let n = c.enter.new.self in
    let kept = c.in_ok-stack.ensures.kept in
    refused _ _ c.from_residual-in_err-add_to_counts-in-None.ensures.0 (entered_kept (top c.args.self.now) n kept _ (frames_rolled _)
    (kept_counts (inside n) (inside _) (normal_entered (top c.args.self.now) n kept)
    (counts_rolled _ ∙ c.in_err-add_to_counts-in-None.ensures.err) (filters_rolled _) (tops_rolled _)))
