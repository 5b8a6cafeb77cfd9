-- One more inside the node is one more at its frames and the path from there on.
use Rattle.std.proofs.Common.{rules, ◌+◌, ◌<◌, ◌^◌, ap, ◌∙◌, subst, reverse}
use Rattle.std.specs.Int.Bits.{bit_or}
use Rattle.htl_event.specs.Tallies.{total_of}
use Rattle.htl_tree.specs.Nodes.{filters_at, tally, top, tops, inside}
use Rattle.htl_tree.proofs.Positions.{frames_rolled, counts_rolled, filters_rolled, tops_rolled, children_rolled}
use Rattle.htl_tree.proofs.Tops.{children_sorted, found_top, set_top, no_top, insert_top}
use Rattle.htl_tree.proofs.CountAdded.{normal_here, kept_counts, added_here, added_branch, stepped, refused}
use Rattle.htl_tree.proofs.FiltersOfPositions.{more_filters}
use Rattle.htl_tree.proofs.Entered.{path_ends, path_goes_on, IsOnward, onward, normal_entered}
use Rattle.htl_tree.proofs.Entered.{entered_tally, entered_added, entered_kept, entered_result}
use Rattle.htl_tree.proofs.node.Node.+add.Goals as goal

pub count_one-requires-clause-sorted : goal.count_one-requires-clause-sorted
count_one-requires-clause-sorted g t c =
    let n = c.enter.new.self in
    let h = normal_here (inside n) (normal_entered (top c.args.self.now) n c.in_ok-stack.ensures.kept) in
    h.slots

pub count_one-requires-clause-fits : goal.count_one-requires-clause-fits
count_one-requires-clause-fits g t c =
    let path = path_ends c.args.stack.now _ _ c.in_ok-stack.ensures.rest c.in-None.ensures.cases in
    subst (λ k. total_of k + 1 < 2 ^ 64)
    (entered_tally (top c.args.self.now) c.enter.new.self c.in_ok-stack.ensures.kept _ _ path c.args.slot) c.requires.fits

pub find_frame-requires : goal.find_frame-requires
find_frame-requires g t c =
    let n = c.enter.new.self in
    rw c.deref.ensures.value (children_sorted n (normal_entered (top c.args.self.now) n c.in_ok-stack.ensures.kept))

pub add-added-requires : goal.add-added-requires
add-added-requires g t c κs within =
    let n = c.enter.new.self in
    let d = c.index_mut.result.now in
    let rest = c.in-Some.rest.now in
    let path = path_goes_on c.args.stack.now _ rest _ _ c.in_ok-stack.ensures.rest c.in-Some.ensures.cases.0 in
    let child : IsOnward (top c.args.self.now) c.args.stack.now rest (top d.1) = onward (top c.args.self.now) n c.in_ok-stack.ensures.kept
    c.args.stack.now rest _ path (top d.1) (found_top n _ c.deref.ensures.value _ _ c.in-Ok.ensures.found d (search rules)) in
    let fits : total_of (tally (reverse rest) c.args.slot (top d.1)) + 1 < 2 ^ 64 =
    subst (λ k. total_of k + 1 < 2 ^ 64) (child.counts c.args.slot) c.requires.fits in
    search rules

pub returns-in_err-insert_child-in-Err : goal.returns-in_err-insert_child-in-Err
returns-in_err-insert_child-in-Err g t c =
    let n = c.enter.new.self in
    let kept = c.in_ok-stack.ensures.kept in
    refused _ _ c.from_residual-in_err-insert_child-in-Err.ensures.0 (entered_kept (top c.args.self.now) n kept _ (frames_rolled _)
    (kept_counts (inside n) (inside _) (normal_entered (top c.args.self.now) n kept) (counts_rolled _) (filters_rolled _)
    (tops_rolled _ ∙ ap tops c.in_err-insert_child-in-Err.ensures.err)))

pub returns-in_err-count_one-in-None : goal.returns-in_err-count_one-in-None
returns-in_err-count_one-in-None g t c =
    let n = c.enter.new.self in
    let kept = c.in_ok-stack.ensures.kept in
    refused _ _ c.from_residual-in_err-count_one-in-None.ensures.0 (entered_kept (top c.args.self.now) n kept _ (frames_rolled _)
    (kept_counts (inside n) (inside _) (normal_entered (top c.args.self.now) n kept) (counts_rolled _ ∙ c.in_err-count_one-in-None.ensures.err)
    (filters_rolled _) (tops_rolled _)))

pub returns-in_ok-count_one-in-None : goal.returns-in_ok-count_one-in-None
returns-in_ok-count_one-in-None g t c =
    let n = c.enter.new.self in
    let old = top c.args.self.now in
    let kept = c.in_ok-stack.ensures.kept in
    let path = path_ends c.args.stack.now _ _ c.in_ok-stack.ensures.rest c.in-None.ensures.cases in
    entered_added old n kept _ _ path c.args.slot _ (frames_rolled _ ∙ frames_rolled _) c.args.sign
    (added_here (inside n) (inside _) c.args.slot c.args.sign (normal_entered old n kept)
    (counts_rolled _ ∙ counts_rolled _ ∙ c.in_ok-count_one-in-None.ensures.ok)
    (filters_rolled _ ∙ ap (λ k. bit_or k c.filter_of.result) (filters_rolled _)
    ∙ ap (bit_or (filters_at n)) c.filter_of.ensures) (tops_rolled _ ∙ tops_rolled _))

pub returns-in-Ok : goal.returns-in-Ok
returns-in-Ok g t c =
    let n = c.enter.new.self in
    let old = top c.args.self.now in
    let d = c.index_mut.result.now in
    let kept = c.in_ok-stack.ensures.kept in
    let same = c.deref.ensures.value in
    let place = c.in-Ok.ensures.found in
    let path = path_goes_on c.args.stack.now _ _ _ _ c.in_ok-stack.ensures.rest c.in-Some.ensures.cases.0 in
    entered_result old n kept _ _ path c.args.slot c.args.sign _ (frames_rolled _ ∙ frames_rolled _) c.add-added.result
    (stepped (inside n) (inside _) (normal_entered old n kept) _ (top d.1) (top c.add-added.new.self)
    (found_top n _ same _ _ place d (search rules)) (counts_rolled _ ∙ counts_rolled _)
    (more_filters n _ (top c.add-added.new.self) _ (counts_rolled _ ∙ counts_rolled _)
    (set_top n _ same _ _ place d (search rules) _ c.add-added.new.self (children_rolled _ ∙ children_rolled _))
    (filters_rolled _ ∙ ap (λ k. bit_or k (filters_at c.add-added.new.self)) (filters_rolled _)) (normal_entered old n kept))
    (set_top n _ same _ _ place d (search rules) _ c.add-added.new.self (children_rolled _ ∙ children_rolled _)) (reverse c.in-Some.rest.now)
    c.args.slot c.args.sign c.add-added.result c.add-added.ensures)

pub returns-in_ok-insert_child-in-Err : goal.returns-in_ok-insert_child-in-Err
returns-in_ok-insert_child-in-Err g t c =
    let n = c.enter.new.self in
    let old = top c.args.self.now in
    let kept = c.in_ok-stack.ensures.kept in
    let same = c.deref.ensures.value in
    let gap = c.in-Err.ensures.absent in
    let path = path_goes_on c.args.stack.now _ _ _ _ c.in_ok-stack.ensures.rest c.in-Some.ensures.cases.0 in
    let child = c.in_ok-child-in-Err.child in
    entered_added old n kept _ _ path c.args.slot _ (frames_rolled _ ∙ frames_rolled _) c.args.sign
    (added_branch (inside n) (inside _) _ (top child) (counts_rolled _ ∙ counts_rolled _)
    (more_filters n _ (top child) _ (counts_rolled _ ∙ counts_rolled _)
    (insert_top n _ same _ _ gap _ child (children_rolled _ ∙ children_rolled _ ∙ c.in_ok-insert_child-in-Err.ensures.ok))
    (filters_rolled _ ∙ ap (λ k. bit_or k (filters_at child)) (filters_rolled _)) (normal_entered old n kept))
    (insert_top n _ same _ _ gap _ child (children_rolled _ ∙ children_rolled _ ∙ c.in_ok-insert_child-in-Err.ensures.ok))
    (normal_entered old n kept)
    (reverse c.in-Some.rest.now) c.args.slot c.args.sign (no_top n _ same _ _ gap) c.in_ok-child-in-Err.ensures)
