-- A leaf with the rows' counts counts them at the end of its frames, and nothing else.
use Rattle.std.proofs.Common.{[], List, ap, subst, sym, reverse}
use Rattle.htl_event.specs.declared.slot.Slot.{Slot}
use Rattle.htl_event.specs.declared.slot.Count.{Count}
use Rattle.htl_tree.specs.Nodes.{top, tops, inside}
use Rattle.htl_tree.specs.Rows.{Gained, IsLeafOfRows}
use Rattle.htl_tree.proofs.CountAdded.{if_parts}
use Rattle.htl_tree.proofs.RowsAdded.{some_slot, leaf_end, leaf_top}
use Rattle.htl_tree.proofs.node.Node.leaf_of_rows.Goals as goal

pub returns : goal.returns
returns g c =
    let rows = c.args.rows.now in
    if_parts (λ n. IsLeafOfRows (reverse c.args.stack.now) rows (top n)) _ _ c.leaf.result
    c.leaf.ensures.frames c.leaf.ensures.counts c.leaf.ensures.children c.leaf.ensures.filters
    (λ n first counts children filtered. subst (λ l. IsLeafOfRows l rows (top n)) first
    (leaf_top rows (some_slot rows c.requires.some c.requires.positive) n (leaf_end (inside n) rows (ap tops children)
    (subst (λ (l : List (Slot × Count)). Gained rows [] l) (sym counts) c.in_ok-counts.ensures) filtered)))
