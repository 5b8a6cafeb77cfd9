-- The slots of a child follow those of the children before it.
use Rattle.std.proofs.Common.{rules, ◌≡◌, ◌+◌, ◌<◌, List, ◌++◌}
use Rattle.std.proofs.Common.{map, drop, append_assoc, append-nil, sym, ap, ◌∙◌, arith}
use Rattle.htl_event.specs.declared.slot.Slot.{Slot}
use Rattle.htl_event.specs.declared.slot.Count.{Count}
use Rattle.htl_tree.specs.Nodes.{frames, inside, counts, children, rows, height, slots_of}
use Rattle.htl_tree.proofs.NodeRows.{child_rows}
use Rattle.htl_tree.proofs.Children.{IsChildAt, child_at, no_child_at, child_height, inside_height}
use Rattle.htl_tree.proofs.SlotRows.{slots_of-node, slots_from_child}
use Rattle.htl_tree.proofs.node.Node.+list_slots.Goals as goal

pub loop-child-init : goal.loop-child-init
loop-child-init g t c =
    let n = inside c.args.self.now in
    let old = c.args.into.now.items in
    let mine : List Slot = map (λ (e : Slot × Count). e.0) (counts n) in
    let below : List Slot = slots_of (child_rows (children n)) in
    let first : c.push_slots.new.into.items ≡ old ++ mine = c.in_ok-push_slots.ensures
    ∙ ap (λ es. old ++ map (λ (e : Slot × Count). e.0) es) c.deref.ensures.value in
    ap (λ l. l ++ below) first ∙ append_assoc old mine below ∙ ap (λ l. old ++ l) (sym (slots_of-node n))

pub list_slots-requires : goal.list_slots-requires
list_slots-requires g t c κs within =
    let n = c.args.self.now in
    let d = c.loop-child-item.result in
    let at : IsChildAt n c.loop-child.child-index d =
    child_at n _ c.deref-child-items.ensures.value _ d c.loop-child-test.true c.loop-child-item.is in
    let lower : height (inside d.1) < height (inside n) = omega (arith, child_height at, inside_height (frames d.1) d.1) in
    search rules

pub loop-child-preserved : goal.loop-child-preserved
loop-child-preserved g t c =
    let n = c.args.self.now in
    let i = c.loop-child.child-index in
    let d = c.loop-child-item.result in
    let at : IsChildAt n i d = child_at n _ c.deref-child-items.ensures.value i d c.loop-child-test.true c.loop-child-item.is in
    let so_far : List Slot = c.loop-child.into.items in
    let rest : List Slot = slots_of (child_rows (drop (i + 1) (children (inside n)))) in
    ap (λ l. l ++ rest) c.in_ok-list_slots.ensures ∙ append_assoc so_far (slots_of (rows (inside d.1))) rest
    ∙ ap (λ l. so_far ++ l) (sym (slots_from_child at)) ∙ c.loop-child.invariant

pub returns : goal.returns
returns g t c =
    let none = no_child_at c.args.self.now _ c.deref-child-items.ensures.value _ c.loop-child-test.false in
    sym (append-nil c.loop-child.into.items)
    ∙ ap (λ ks. c.loop-child.into.items ++ slots_of (child_rows ks)) (sym none) ∙ c.loop-child.invariant
