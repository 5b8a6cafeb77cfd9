-- Another analyst is merged and what it brings is folded, or it is refused.
use Rattle.htl_main.proofs.MergingLaws.{absorbed, not_absorbed}
use Rattle.htl_main.proofs.folding.states.absorb.Goals as goal

pub returns-in-Err-clause-err : goal.returns-in-Err-clause-err
returns-in-Err-clause-err c =
    let is = c.in-Err.ensures.merges in
    rw (c.in-Some.is, c.merge_fault.ensures)
    (not_absorbed c.in-Some.analyst c.args.other c.absorb.new.self c.in-Err.fault is.cause is.same)

pub returns-clause-ok : goal.returns-clause-ok
returns-clause-ok c =
    let kept = c.compact.ensures in
    rw (c.in-Some.is)
    (absorbed c.in-Some.analyst c.args.other c.absorb.new.self c.compact.new.self c.in_default-absorb.ensures.merges kept.trace kept.keys
    kept.right (rw c.in_ok-compact.was at kept.settled))
