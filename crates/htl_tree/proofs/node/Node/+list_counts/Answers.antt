-- The counts of a child follow those of the children before it, and a node whose filters lack the slots' has none of theirs.
use Rattle.std.proofs.Common.{rules, ◌≡◌, ◌+◌, ◌<◌, List, ◌++◌, drop, false, append_assoc, append-nil, sym, ap, ◌∙◌, arith}
use Rattle.htl_event.specs.declared.slot.Slot.{Slot}
use Rattle.htl_event.specs.declared.slot.Count.{Count}
use Rattle.htl_tree.specs.Nodes.{frames, filters_at, inside, counts, children, rows, height, asked_of, counts_in, IsNormal}
use Rattle.htl_tree.proofs.NodeRows.{child_rows}
use Rattle.htl_tree.proofs.CountAdded.{normal_inside}
use Rattle.htl_tree.proofs.Children.{IsChildAt, child_at, no_child_at, child_normal, child_height, inside_height}
use Rattle.htl_tree.proofs.FiltersOfRows.{rows_have_filters, no_filter_no_counts}
use Rattle.htl_tree.proofs.SlotRows.{asked_of-node, counts_from_child}
use Rattle.htl_tree.proofs.node.Node.+list_counts.Goals as goal

pub returns-then-not-may_count : goal.returns-then-not-may_count
returns-then-not-may_count g t c =
    let n = c.args.self.now in
    let old : List (Slot × Count) = c.args.into.now.items in
    let missing : c.may_count.result ≡ false = c.if-not-may_count.true in
    sym (append-nil old) ∙ ap (λ l. old ++ l) (sym (no_filter_no_counts (filters_at n) c.args.slots (rows (inside n))
    (rows_have_filters (inside n) c.requires)
    (λ s yes there. c.may_count.ensures missing (c.common_filter.ensures.of_each (filters_at n) s yes there))))

pub loop-child-init : goal.loop-child-init
loop-child-init g t c =
    let n = inside c.args.self.now in
    let slots = c.args.slots in
    let old : List (Slot × Count) = c.args.into.now.items in
    let below : List (Slot × Count) = asked_of slots (counts_in (child_rows (children n))) in
    let first : c.push_counts.new.into.items ≡ old ++ asked_of slots (counts n) = c.in_ok-push_counts.ensures
    ∙ ap (λ (es : List (Slot × Count)). old ++ asked_of slots es) c.deref.ensures.value in
    ap (λ l. l ++ below) first ∙ append_assoc old (asked_of slots (counts n)) below ∙ ap (λ l. old ++ l) (sym (asked_of-node slots n))

pub list_counts-requires : goal.list_counts-requires
list_counts-requires g t c κs within =
    let n = c.args.self.now in
    let d = c.loop-child-item.result in
    let at : IsChildAt n c.loop-child.child-index d =
    child_at n _ c.deref-child-items.ensures.value _ d c.loop-child-test.true c.loop-child-item.is in
    let normal : IsNormal (inside d.1) = normal_inside (frames d.1) d.1 (child_normal at c.requires) in
    let lower : height (inside d.1) < height (inside n) = omega (arith, child_height at, inside_height (frames d.1) d.1) in
    search rules

pub loop-child-preserved : goal.loop-child-preserved
loop-child-preserved g t c =
    let n = c.args.self.now in
    let i = c.loop-child.child-index in
    let d = c.loop-child-item.result in
    let slots = c.args.slots in
    let at : IsChildAt n i d = child_at n _ c.deref-child-items.ensures.value i d c.loop-child-test.true c.loop-child-item.is in
    let so_far : List (Slot × Count) = c.loop-child.into.items in
    let rest : List (Slot × Count) = asked_of slots (counts_in (child_rows (drop (i + 1) (children (inside n))))) in
    ap (λ l. l ++ rest) c.in_ok-list_counts.ensures ∙ append_assoc so_far (asked_of slots (counts_in (rows (inside d.1)))) rest
    ∙ ap (λ l. so_far ++ l) (sym (counts_from_child slots at)) ∙ c.loop-child.invariant

pub returns : goal.returns
returns g t c =
    let none = no_child_at c.args.self.now _ c.deref-child-items.ensures.value _ c.loop-child-test.false in
    sym (append-nil c.loop-child.into.items)
    ∙ ap (λ ks. c.loop-child.into.items ++ asked_of c.args.slots (counts_in (child_rows ks))) (sym none) ∙ c.loop-child.invariant
