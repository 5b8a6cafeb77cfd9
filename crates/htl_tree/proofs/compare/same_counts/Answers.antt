-- Counts compare as equal exactly where they are equal.
use Rattle.std.proofs.lemmas.Slice.Eq.{slice_eq-Decides}
use Rattle.htl_tree.proofs.EqualCounts.{entry_Decides}
use Rattle.htl_tree.proofs.compare.same_counts.Goals as goal

pub returns : goal.returns
returns c = slice_eq-Decides (λ x y. entry_Decides x y) c.args.a.now c.args.b.now c.eq.result c.eq.ensures
