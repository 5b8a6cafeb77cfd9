-- Behind a segment that is unfit none more is taken, and it stays the first that is.
use Rattle.std.proofs.Common.{◌∙◌, sym}
use Rattle.htl_main.proofs.FolderLaws.{stays}
use Rattle.htl_main.proofs.folding.folder.FolderSegmentKeeper.take_segment.Goals as goal

pub returns-then-is_some : goal.returns-then-is_some
returns-then-is_some c = λ first given so_far.
    stays first.analyst c.args.self.now.analyst c.args.self.now.unfit given c.args.self.now.segments c.args.segment
    (sym c.is_some.ensures ∙ c.if-is_some.true) so_far

pub returns : goal.returns
returns c = λ first given so_far. c.take_next.ensures first.analyst given so_far
