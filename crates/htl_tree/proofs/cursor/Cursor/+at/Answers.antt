-- What a stack finds is what the rest of it finds one frame further in.
use Rattle.std.proofs.Common.{rules, subst, sym}
use Rattle.htl_sorted.specs.Entries.{IsSorted}
use Rattle.htl_event.specs.SlotOrder.{slot_cmp}
use Rattle.htl_tree.specs.Nodes.{position_of, IsNormal}
use Rattle.htl_tree.proofs.CountAdded.{normal_here, normal_child}
use Rattle.htl_tree.proofs.cursor.Cursor.+at.Goals as goal

pub count_in-requires : goal.count_in-requires
count_in-requires g t c = let h = normal_here (position_of c.args.self.now) c.requires in
    subst (λ es. IsSorted slot_cmp es) (sym c.counts.ensures) h.slots

pub at-requires : goal.at-requires
at-requires g t c κs within =
    let normal : IsNormal (position_of c.in-Some-child.child) =
    normal_child (position_of c.args.self.now) c.requires c.in-Some.frame.now (position_of c.in-Some-child.child) c.in-Some-child.ensures.some in
    search rules
