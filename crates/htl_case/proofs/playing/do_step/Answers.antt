-- Each step changes the state of one analyst, as the contract of its call says.
use Rattle.std.proofs.Common.{◌<◌, length, sym, subst}
use Rattle.std.proofs.lemmas.Result.{on_ok_weaker}
use Rattle.htl_analyst.specs.States.{State}
use Rattle.htl_analyst.specs.Right.{IsRight}
use Rattle.htl_case.specs.Histories.{IsTake, IsCompaction}
use Rattle.htl_case.specs.Changes.{IsMergeFrom}
use Rattle.htl_case.proofs.Played.{right_at, changes_at, taker_there, target_there, source_there, compacted_there, merged_from}
use Rattle.htl_case.proofs.playing.do_step.Goals as goal

pub take-requires-clause-right : goal.take-requires-clause-right
take-requires-clause-right c =
    let fine = rw c.in-Take.is at c.requires.there in
    right_at c.args.case.now c.args.analysts.now c.in-Take.analyst c.index-analysts-analyst.result c.requires.right
    (taker_there (length c.args.analysts.now) (length c.args.case.now.segments) c.in-Take.analyst c.in-Take.segment fine)

pub absorb-requires-clause-right : goal.absorb-requires-clause-right
absorb-requires-clause-right c =
    let fine = rw c.in-Merge.is at c.requires.there in
    right_at c.args.case.now c.args.analysts.now c.in-Merge.target c.index-analysts-target.result c.requires.right
    (target_there (length c.args.analysts.now) (length c.args.case.now.segments) c.in-Merge.target c.in-Merge.source fine)

pub absorb-requires-clause-other : goal.absorb-requires-clause-other
absorb-requires-clause-other c =
    let fine = rw c.in-Merge.is at c.requires.there in
    subst (λ (a : State). IsRight a c.args.case.now) (sym c.in_ok-copy-in-Merge.ensures)
    (right_at c.args.case.now c.args.analysts.now c.in-Merge.source c.index-analysts-source.result c.requires.right
    (source_there (length c.args.analysts.now) (length c.args.case.now.segments) c.in-Merge.target c.in-Merge.source fine))

pub returns-in-Take-clause-ok : goal.returns-in-Take-clause-ok
returns-in-Take-clause-ok c =
    let fine = rw c.in-Take.is at c.requires.there in
    let there : c.in-Take.analyst < length c.args.analysts.now =
    taker_there (length c.args.analysts.now) (length c.args.case.now.segments) c.in-Take.analyst c.in-Take.segment fine in
    rw c.in-Take.is (on_ok_weaker c.take.result (λ taken.
    changes_at c.args.analysts.now c.in-Take.analyst c.index-analysts-analyst.result c.take.new.analyst
    (IsTake c.args.case.now c.in-Take.segment) there taken) c.take.ensures.ok)

pub returns-in_ok-copy-in-Merge-clause-ok : goal.returns-in_ok-copy-in-Merge-clause-ok
returns-in_ok-copy-in-Merge-clause-ok c =
    let fine = rw c.in-Merge.is at c.requires.there in
    let there : c.in-Merge.target < length c.args.analysts.now =
    target_there (length c.args.analysts.now) (length c.args.case.now.segments) c.in-Merge.target c.in-Merge.source fine in
    let source : c.in-Merge.source < length c.args.analysts.now =
    source_there (length c.args.analysts.now) (length c.args.case.now.segments) c.in-Merge.target c.in-Merge.source fine in
    rw c.in-Merge.is (on_ok_weaker c.absorb.result (λ merged.
    changes_at c.args.analysts.now c.in-Merge.target c.index-analysts-target.result c.absorb.new.target
    (IsMergeFrom c.args.analysts.now c.in-Merge.source) there
    (merged_from c.args.analysts.now c.in-Merge.source c.index-analysts-source.result c.in_ok-copy-in-Merge.copy _ _ source
    c.in_ok-copy-in-Merge.ensures merged)) c.absorb.ensures.ok)

pub returns-in_ok-compact-in-Compact-clause-ok : goal.returns-in_ok-compact-in-Compact-clause-ok
returns-in_ok-compact-in-Compact-clause-ok c =
    let fine = rw c.in-Compact.is at c.requires.there in
    let there : c.in-Compact.analyst < length c.args.analysts.now =
    compacted_there (length c.args.analysts.now) (length c.args.case.now.segments) c.in-Compact.analyst fine in
    rw c.in-Compact.is (changes_at c.args.analysts.now c.in-Compact.analyst c.index-analysts-analyst-in-Compact.result c.compact.new.self
    IsCompaction there
    (record { keys = c.in_ok-compact-in-Compact.ensures.keys; standing = c.in_ok-compact-in-Compact.ensures.standing }))
