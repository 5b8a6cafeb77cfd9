-- Each group is still counted when its turn comes, and taken out then.
use Rattle.std.proofs.Common.{List, []}
use Rattle.std.specs.Borrow.{Bor}
use Rattle.htl_tree.specs.declared.row.Row.{Row}
use Rattle.htl_tree.specs.Nodes.{tree_of}
use Rattle.htl_tree.proofs.GroupsRemoved.{group_left, groups_more}
use Rattle.htl_tree.proofs.removing.remove_groups.Goals as goal

abbrev none : Bor (List Row)
none = record { ref_ptr = (0, 0); now = [] }

pub remove_group-requires-clause-counted : goal.remove_group-requires-clause-counted
remove_group-requires-clause-counted g c = group_left c.args.groups.now c.loop-group.group-index none c.loop-group-test.true
    (tree_of c.args.root.now) (tree_of c.loop-group.root) c.loop-group.invariant.counts c.requires.counted

pub loop-group-preserved : goal.loop-group-preserved
loop-group-preserved g c = record {
  normal = c.remove_group.ensures.normal;
  counts = groups_more c.args.groups.now c.loop-group.group-index none c.loop-group-test.true (tree_of c.args.root.now)
      (tree_of c.loop-group.root) (tree_of c.remove_group.new.root) c.loop-group.invariant.counts c.remove_group.ensures.counts;
}
