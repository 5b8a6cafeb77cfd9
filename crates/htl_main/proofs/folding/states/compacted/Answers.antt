-- What was folded is folded still.
use Rattle.htl_main.proofs.MergingLaws.{compacted_folds}
use Rattle.htl_main.proofs.folding.states.compacted.Goals as goal

pub returns-clause-ok : goal.returns-clause-ok
returns-clause-ok c = λ segments folded.
    let kept = c.compact.ensures in
    compacted_folds segments c.args.other c.compact.new.self folded.taken.1 folded.taken.0 folded.rising kept.trace kept.keys kept.right
    (rw c.in_ok-compact.was at kept.settled)
