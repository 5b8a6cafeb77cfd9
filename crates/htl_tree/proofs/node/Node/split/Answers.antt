-- The lower node has what was inside.
use Rattle.std.proofs.Common.{rules, ◌≡◌, ◌+◌, ℕ, ◌∷◌, ◌++◌, [], ap, ◌∙◌, sym, take, drop, get_or, set, length-drop, arith}
use Rattle.std.proofs.lemmas.List.{take-append-drop, take_all, drop_more}
use Rattle.htl_tree.specs.declared.node.Node.{Node}
use Rattle.htl_tree.specs.declared.node.Node.TheViews.{roll-Node}
use Rattle.htl_tree.specs.Nodes.{frames, counts_of, filters_at}
use Rattle.htl_tree.proofs.Positions.{frames_rolled, counts_rolled, filters_rolled, children_rolled}
use Rattle.htl_tree.proofs.CountAdded.{parted}
use Rattle.htl_tree.proofs.node.Node.split.Goals as goal

pub returns-clause-kept : goal.returns-clause-kept
returns-clause-kept g c =
    let n = c.args.self.now in
    let len = c.args.len in
    let A = g.row.A.Denot in
    let bare : Node A = roll-Node A record { frames = c.in_ok-from_slice.field-0; counts = c.new.result; children = c.new-2.result; filters = filters_at n } in
    let f = c.index.result.now in
    let only : c.push.new.self.items ≡ (f, bare) ∷ [] = c.in_ok-push.ensures.items
    ∙ ap (λ l. l ++ (f, bare) ∷ []) c.in_ok-children.ensures.items in
    let was : c.index_mut.result.now ≡ (f, bare) = c.index_mut.ensures.value ∙ ap (λ l. get_or l 0 c.index_mut.result.now) only in
    let frame : f ≡ get_or (frames n) len f = search rules in
    let kept : c.in_ok-frames.frames.items ≡ take len (frames n) = search rules in
    let rest : c.in_ok-from_slice.field-0.items ≡ drop (len + 1) (frames n) =
    c.in_ok-from_slice.ensures.items
    ∙ take_all _ _ (omega (arith, length-drop (len + 1) c.deref.result.now)) ∙ ap (λ l. drop (len + 1) l) c.deref.ensures.value in
    parted n _ c.swap_inside.new.other (take len (frames n)) (drop (len + 1) (frames n)) f c.requires.normal
    (sym (take-append-drop len (frames n)) ∙ ap (λ l. take len (frames n) ++ l) (drop_more (frames n) len f c.requires.within
    ∙ ap (λ x. x ∷ drop (len + 1) (frames n)) (sym frame)))
    (frames_rolled _ ∙ kept)
    (counts_rolled _ ∙ counts_rolled _ ∙ c.swap_inside.ensures.counts ∙ ap (λ (k : ℕ × Node A). counts_of k.1) was ∙ counts_rolled _ ∙ c.new.ensures.items)
    (children_rolled _ ∙ children_rolled _ ∙ ap (λ l. set l 0 (c.index_mut.result.now.0, c.swap_inside.new.other)) only
    ∙ ap (λ (k : ℕ × Node A). (k.0, c.swap_inside.new.other) ∷ []) was)
    (filters_rolled _ ∙ filters_rolled _ ∙ c.swap_inside.ensures.filters)
    (c.swap_inside.ensures.other_frames ∙ ap (λ (k : ℕ × Node A). frames k.1) was ∙ frames_rolled _ ∙ rest)
    (c.swap_inside.ensures.other_counts)
    (c.swap_inside.ensures.other_children)
    (c.swap_inside.ensures.other_filters ∙ ap (λ (k : ℕ × Node A). filters_at k.1) was ∙ filters_rolled _)
