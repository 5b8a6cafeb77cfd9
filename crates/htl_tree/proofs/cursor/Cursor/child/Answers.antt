-- The position that a frame leads to is the next frame's, or the top of a child.
use Rattle.std.proofs.Common.{Some, sym, ap, ◌∙◌, subst}
use Rattle.std.specs.Ordering.{nat_cmp}
use Rattle.std.specs.FinMap.Entries.{find}
use Rattle.std.proofs.lemmas.List.{nil_from_length}
use Rattle.htl_sorted.specs.Entries.{IsSorted}
use Rattle.htl_tree.specs.Nodes.{inside, children, IsNormal}
use Rattle.htl_tree.proofs.CountAdded.{normal_inside}
use Rattle.htl_tree.proofs.Tops.{children_sorted, found_top, no_top}
use Rattle.htl_tree.proofs.cursor.Cursor.child.Goals as goal

pub find_frame-requires : goal.find_frame-requires
find_frame-requires g c =
    let n = c.args.self.now.node.now in
    let normal : IsNormal (inside n) = normal_inside c.args.self.now.frames.now n c.requires in
    subst (λ l. IsSorted nat_cmp l) (sym c.deref.ensures.value) (children_sorted n normal)

pub returns-in-Ok-clause-some : goal.returns-in-Ok-clause-some
returns-in-Ok-clause-some g c =
    let n = c.args.self.now.node.now in
    let f = c.args.frame in
    ap (λ fs. find nat_cmp f (children (fs, n))) (nil_from_length c.args.self.now.frames.now c.in-None.ensures.cases)
    ∙ found_top n _ c.deref.ensures.value f _ c.in-Ok.ensures.found c.index.result.now c.index.ensures ∙ ap (λ s. Some s) (sym c.top.ensures)

pub returns-in-Err-clause-none : goal.returns-in-Err-clause-none
returns-in-Err-clause-none g c none =
    let n = c.args.self.now.node.now in
    let f = c.args.frame in
    ap (λ fs. find nat_cmp f (children (fs, n))) (nil_from_length c.args.self.now.frames.now c.in-None.ensures.cases)
    ∙ no_top n _ c.deref.ensures.value f _ c.in-Err.ensures.absent
