-- The rows of a child follow those of the children before it.
use Rattle.std.proofs.Common.{rules, ◌≡◌, ℕ, ◌+◌, ◌-◌, ◌<◌, List, [], ◌∷◌, ◌++◌, length}
use Rattle.std.proofs.Common.{take, drop, false, vec_len, append_assoc, append-nil, length-append, sym, ap, ◌∙◌, subst, arith}
use Rattle.std.proofs.lemmas.List.{take_at}
use Rattle.htl_event.specs.declared.slot.Slot.{Slot}
use Rattle.htl_event.specs.declared.slot.Count.{Count}
use Rattle.htl_tree.specs.HasSlot.{has_slot}
use Rattle.htl_tree.specs.Nodes.{top, inside, frames, counts_of, filters_at, children, rows, height, rows_at, rows_of_counts, IsNormal, IsShortFrom}
use Rattle.htl_tree.proofs.NodeRows.{child_rows}
use Rattle.htl_tree.proofs.CountAdded.{normal_inside}
use Rattle.htl_tree.proofs.Children.{IsChildAt, child_at, no_child_at, child_normal, child_height, inside_height}
use Rattle.htl_tree.proofs.FiltersOfRows.{rows_have_filters, no_filter_no_rows}
use Rattle.htl_tree.proofs.SlotRows.{rows_at-node, rows_at-inside, rows_from_child, short_here, short_inside, short_child}
use Rattle.htl_tree.proofs.node.Node.+list_rows.Goals as goal

pub returns-then-not-may_count-clause-listed : goal.returns-then-not-may_count-clause-listed
returns-then-not-may_count-clause-listed g t c =
    let n = c.args.self.now in
    let p = c.args.path.now.items in
    let old : List ((Slot × List ℕ) × Count) = c.args.into.now.items in
    let missing : c.may_count.result ≡ false = c.if-not-may_count.true in
    sym (append-nil old) ∙ ap (λ l. old ++ l) (sym (no_filter_no_rows (filters_at n) c.args.slots p (rows (top n))
    (rows_have_filters (top n) c.requires.normal)
    (λ s yes there. c.may_count.ensures missing (c.common_filter.ensures.of_each (filters_at n) s yes there))))

pub push_rows-requires : goal.push_rows-requires
push_rows-requires g t c some =
    let n = c.args.self.now in
    let p = c.args.path.now.items in
    let counts : 0 < length (counts_of n) = subst (λ (es : List (Slot × Count)). 0 < length es) c.deref-2.ensures.value some in
    let path : c.deref-3.result.now ≡ p ++ frames n = c.deref-3.ensures.value ∙ c.in_ok-extend_from_slice.ensures.items
    ∙ ap (λ l. p ++ l) c.deref.ensures.value in
    let depth : length c.deref-3.result.now ≡ length p + length (frames n) = ap length path ∙ length-append p (frames n) in
    let short = short_here (inside n) (length p + length (frames n)) (short_inside (frames n) n (length p) c.requires.short) counts in
    omega (arith, depth, short)

pub loop-frame-init : goal.loop-frame-init
loop-frame-init g t c =
    let n = c.args.self.now in
    let s = has_slot c.args.slots in
    let p = c.args.path.now.items in
    let q = p ++ frames n in
    let old = c.args.into.now.items in
    let counts : List ((Slot × List ℕ) × Count) = rows_of_counts s q (counts_of n) in
    let below : List ((Slot × List ℕ) × Count) = rows_at s q (child_rows (children (inside n))) in
    let path : c.extend_from_slice.new.self.items ≡ q = c.in_ok-extend_from_slice.ensures.items
    ∙ ap (λ l. p ++ l) c.deref.ensures.value in
    let mine : c.push_rows.new.into.items ≡ old ++ counts = c.in_ok-push_rows.ensures
    ∙ ap (λ es. old ++ rows_of_counts s c.deref-3.result.now es) c.deref-2.ensures.value
    ∙ ap (λ k. old ++ rows_of_counts s k (counts_of n)) (c.deref-3.ensures.value ∙ path) in
    record {
      path = path;
      listed = ap (λ l. l ++ below) mine ∙ append_assoc old counts below
          ∙ ap (λ l. old ++ l) (sym (rows_at-inside s (frames n) n p ∙ rows_at-node s (inside n) q));
    }

pub list_rows-requires : goal.list_rows-requires
list_rows-requires g t c κs within =
    let n = c.args.self.now in
    let d = c.loop-frame-item.result in
    let p = c.args.path.now.items in
    let fs = frames n in
    let path = p ++ fs in
    let at : IsChildAt n c.loop-frame.frame-index d =
    child_at n _ c.deref-frame-items.ensures.value _ d c.loop-frame-test.true c.loop-frame-item.is in
    let lower : height (top d.1) < height (top n) = omega (arith, child_height at, inside_height fs n) in
    let normal : IsNormal (top d.1) = child_normal at (normal_inside fs n c.requires.normal) in
    let grown : c.push.new.self.items ≡ path ++ d.0 ∷ [] = c.in_ok-push.ensures.items
    ∙ ap (λ l. l ++ d.0 ∷ []) c.loop-frame.invariant.path in
    let depth : length c.push.new.self.items ≡ length p + length fs + 1 = ap length grown ∙ length-append path (d.0 ∷ [])
    ∙ ap (λ l. l + 1) (length-append p fs) in
    let short : IsShortFrom (length c.push.new.self.items) (rows (top d.1)) = subst (λ l. IsShortFrom l (rows (top d.1))) (sym depth)
    (short_child at (length p + length fs) (short_inside fs n (length p) c.requires.short)) in
    search rules

pub loop-frame-preserved : goal.loop-frame-preserved
loop-frame-preserved g t c =
    let n = c.args.self.now in
    let i = c.loop-frame.frame-index in
    let d = c.loop-frame-item.result in
    let at : IsChildAt n i d = child_at n _ c.deref-frame-items.ensures.value i d c.loop-frame-test.true c.loop-frame-item.is in
    let path = c.args.path.now.items ++ frames n in
    let s = has_slot c.args.slots in
    let old : List ((Slot × List ℕ) × Count) = c.loop-frame.into.items in
    let grown : c.push.new.self.items ≡ path ++ d.0 ∷ [] = c.in_ok-push.ensures.items
    ∙ ap (λ l. l ++ d.0 ∷ []) c.loop-frame.invariant.path in
    let kept : c.list_rows.new.path.items ≡ path ++ d.0 ∷ [] = c.in_ok-list_rows.ensures.path ∙ grown in
    let whole : length c.list_rows.new.path.items ≡ length path + 1 = ap length kept ∙ length-append path (d.0 ∷ []) in
    let len : vec_len c.list_rows.new.path - 1 ≡ length path = omega (arith, whole, c.list_rows.new.path.ok.0) in
    let back : c.pop.new.self.items ≡ path = c.pop.ensures.rest ∙ ap (λ l. take (vec_len c.list_rows.new.path - 1) l) kept
    ∙ take_at path (d.0 ∷ []) (vec_len c.list_rows.new.path - 1) (sym len) in
    let below : List ((Slot × List ℕ) × Count) = rows_at s (path ++ d.0 ∷ []) (rows (top d.1)) in
    let rest : List ((Slot × List ℕ) × Count) = rows_at s path (child_rows (drop (i + 1) (children (inside n)))) in
    let listed : c.list_rows.new.into.items ≡ old ++ below = c.in_ok-list_rows.ensures.listed
    ∙ ap (λ l. old ++ rows_at s l (rows (top d.1))) grown in
    record {
      path = back;
      listed = ap (λ l. l ++ rest) listed ∙ append_assoc old below rest
          ∙ ap (λ l. old ++ l) (sym (rows_from_child s at path)) ∙ c.loop-frame.invariant.listed;
    }

pub returns-clause-path : goal.returns-clause-path
returns-clause-path g t c =
    let p = c.args.path.now.items in
    let len : length p ≡ c.len-len.result = omega (arith, c.len-len.ensures, c.args.path.now.ok.0) in
    c.truncate.ensures.items ∙ ap (λ l. take c.len-len.result l) c.loop-frame.invariant.path
    ∙ take_at p (frames c.args.self.now) c.len-len.result len

pub returns-clause-listed : goal.returns-clause-listed
returns-clause-listed g t c =
    let n = c.args.self.now in
    let path = c.args.path.now.items ++ frames n in
    let none = no_child_at n _ c.deref-frame-items.ensures.value _ c.loop-frame-test.false in
    sym (append-nil c.loop-frame.into.items)
    ∙ ap (λ ks. c.loop-frame.into.items ++ rows_at (has_slot c.args.slots) path (child_rows ks)) (sym none)
    ∙ c.loop-frame.invariant.listed
