-- So far the rows are made of what was passed of both lists, of which less is left after each turn.
use Rattle.std.proofs.Common.{◌+◌, ◌-◌, length}
use Rattle.htl_sorted.proofs.Rows.{IsMadeOf}
use Rattle.htl_sorted.proofs.merging.merge.Given as goal

abbrev pub invariant-loop-i : goal.invariant-loop-i
invariant-loop-i g l = IsMadeOf g.L.Keyed.key_of g.L.Keyed.value_of g.L.Key.Ord.cmp g.L.Joined.joined l.left l.right l.i l.j l.rows.items

abbrev pub decreases-loop-i : goal.decreases-loop-i
decreases-loop-i g l = (length l.left - l.i) + (length l.right - l.j)
