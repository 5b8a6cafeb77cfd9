-- The rows that are listed from the root on are those of the tree.
use Rattle.std.proofs.Common.{◌≡◌, ℕ, List, [], ◌++◌, length, Some, sym, ap, ◌∙◌, subst}
use Rattle.htl_tree.specs.HasSlot.{has_slot}
use Rattle.htl_tree.specs.Nodes.{top, tree_of, rows, rows_at, picked, IsNormalRoot, IsShortFrom}
use Rattle.htl_tree.proofs.SlotRows.{picked_tree, short_root}
use Rattle.htl_tree.proofs.root.list_root_rows.Goals as goal

pub returns-in-None : goal.returns-in-None
returns-in-None g c = c.new-rows.ensures.items ∙ ap (λ r. picked (has_slot c.args.slots) (tree_of r)) (sym c.in-None.is)

pub list_rows-requires-clause-normal : goal.list_rows-requires-clause-normal
list_rows-requires-clause-normal g c =
    let h : IsNormalRoot (Some c.in-Some.root) = subst (λ r. IsNormalRoot r) c.in-Some.is c.requires in
    h.normal

pub list_rows-requires-clause-short : goal.list_rows-requires-clause-short
list_rows-requires-clause-short g c =
    let h : IsNormalRoot (Some c.in-Some.root) = subst (λ r. IsNormalRoot r) c.in-Some.is c.requires in
    subst (λ (l : List ℕ). IsShortFrom (length l) (rows (top c.in-Some.root))) (sym c.in_ok-path-in-Some.ensures.items)
    (short_root (rows (top c.in-Some.root)) h.shallow)

pub returns-in_ok-list_rows-in-Some : goal.returns-in_ok-list_rows-in-Some
returns-in_ok-list_rows-in-Some g c =
    let n = top c.in-Some.root in
    let p = has_slot c.args.slots in
    let path : c.in_ok-path-in-Some.path.items ≡ [] = c.in_ok-path-in-Some.ensures.items in
    c.in_ok-list_rows-in-Some.ensures.listed
    ∙ ap (λ l. l ++ rows_at p c.in_ok-path-in-Some.path.items (rows n)) c.new-rows.ensures.items
    ∙ ap (λ k. rows_at p k (rows n)) path ∙ sym (picked_tree p n) ∙ ap (λ r. picked p (tree_of r)) (sym c.in-Some.is)
